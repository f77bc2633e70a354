-- One number for a key, which decides most comparisons of two keys without a look at them: the lesser number has the lesser key.
--   leading       a list's first n numbers as the digits of one number to the base 256
--   Digit         a number of a list as a digit
--   item_hint      an item's hint
--   Hinted        an item that can be read, with its hint at its place among the hints
--   Hints         the hints of n items
-- Assumes nothing: these are definitions.
use Rattle.std.specs.Prelude.{ℕ, zero, suc, ◌+◌, ◌*◌, ◌^◌, ◌≤◌, ◌<◌, ◌≡◌, cond, List, [], ◌∷◌, ltb, length, get_or}
use Rattle.key.specs.declared.Kind.{Kind}
use Rattle.key.specs.Items.{Item, item_key}

-- a number from 255 on is the digit 255, and nothing after it counts: what it is exactly, the digit does not tell
unfoldable pub leading : ℕ → List ℕ → ℕ
leading zero xs = 0
leading (suc n) [] = 0
leading (suc n) (x ∷ xs) = cond (ltb x 255) (x * 256 ^ n + leading n xs) (255 * 256 ^ n)

-- a number of a list as a digit: itself below 255, and 0 where the list has ended
pub record Digit (xs : List ℕ) (k r : ℕ) : Type 0 where
  pub goes : get_or xs k 0 < 255 → r ≡ get_or xs k 0
  pub stops : 255 ≤ get_or xs k 0 → r ≡ 255
  pub most : r ≤ 255

-- of the first four numbers of its key
unfoldable pub item_hint : Kind → List ℕ → List ℕ → ℕ → ℕ
item_hint kind bytes list k = leading 4 (item_key kind bytes list k)

pub record Hinted (kind : Kind) (bytes list hints : List ℕ) (k : ℕ) : Type 0 where
  pub item : Item kind bytes list k
  pub within : k < length hints
  pub told : get_or hints k 0 ≡ item_hint kind bytes list k

pub record Hints (kind : Kind) (bytes list : List ℕ) (n : ℕ) (hints : List ℕ) : Type 0 where
  pub many : length hints ≡ n
  pub each : (k : ℕ) → k < n → get_or hints k 0 ≡ item_hint kind bytes list k
