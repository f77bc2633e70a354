-- Text as a list of ASCII codes.
--   ascii      the codes of a quoted text
--   decimal    a number's digits
--   hex        the digits of bytes, two to a byte, in lower case
--   Appended   bytes put at a place, and where they end
--   Room       how much more a text may hold
--   Puts       the same of a text
-- Assumes nothing: these are definitions.
use Rattle.std.specs.Prelude.{ℕ, zero, suc, ◌+◌, ◌/◌, ◌%◌, ◌≤◌, ◌≡◌, cond, List, [], ◌∷◌, ◌++◌, ltb, length}
use Prim.Native.Char.{code}
use Prim.Native.String.{String, [] as nothing, ◌∷◌ as ◌and◌}
use Rattle.io.specs.Digits.{hex_digit_ascii}
use Rattle.numbers.specs.Numbers.{put}
use Rattle.list_digits.specs.declared.Text.{Text}

abbrev pub ascii : String → List ℕ
ascii nothing = []
ascii (c and s) = code c ∷ ascii s

-- the digits of a number that has at most one more of them than `most`
unfoldable pub decimal_in : ℕ → ℕ → List ℕ
decimal_in zero n = hex_digit_ascii n ∷ []
decimal_in (suc most) n = cond (ltb n 10) (hex_digit_ascii n ∷ []) (decimal_in most (n / 10) ++ (hex_digit_ascii (n % 10) ∷ []))

unfoldable pub decimal : ℕ → List ℕ
decimal n = decimal_in n n

unfoldable pub hex : List ℕ → List ℕ
hex [] = []
hex (b ∷ bs) = hex_digit_ascii (b / 16) ∷ hex_digit_ascii (b % 16) ∷ hex bs

-- some bytes, at most `most` of them, stand at a place of what was there before, and end at `stop`
pub record Appended (most : ℕ) (before : List ℕ) (at : ℕ) (bytes after : List ℕ) (stop : ℕ) : Type 0 where
  pub same : after ≡ put before at bytes
  pub stops : stop ≡ at + length bytes
  pub fits : at + length bytes ≤ length before
  pub short : length bytes ≤ most

-- there is room for so many bytes
abbrev pub Room : ℕ → Text → Type 0
Room most t = t.at + most ≤ length t.out.now

-- some bytes, at most `most` of them, are put behind what a text had, into the same lent bytes
pub record Puts (most : ℕ) (old : Text) (bytes : List ℕ) (new : Text) : Type 0 where
  pub same_reference : new.out.ghost_name ≡ old.out.ghost_name
  pub same_length : length new.out.now ≡ length old.out.now
  pub put : Appended most old.out.now old.at bytes new.out.now new.at
