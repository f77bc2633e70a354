-- Little-endian numbers in a list of bytes, over the width.
--   le        the number that bytes write, the lowest byte first
--   num_at     the number in the n bytes at a place
--   bytes_of   the n lowest bytes of a number, the lowest first
--   put       a list with some bytes written over what stood at a place
--   Bytes     each element is a byte
-- Assumes nothing.
use Rattle.std.specs.Prelude.{ℕ, zero, suc, ◌+◌, ◌*◌, ◌/◌, ◌%◌, ◌<◌, List, [], ◌∷◌, ◌++◌, length, get_or, take, drop}

unfoldable pub le : List ℕ → ℕ
le [] = 0
le (b ∷ bs) = b + 256 * le bs

unfoldable pub num_at : ℕ → List ℕ → ℕ → ℕ
num_at n s k = le (take n (drop k s))

unfoldable pub bytes_of : ℕ → ℕ → List ℕ
bytes_of zero v = []
bytes_of (suc n) v = v % 256 ∷ bytes_of n (v / 256)

unfoldable pub put : List ℕ → ℕ → List ℕ → List ℕ
put s k bs = take k s ++ bs ++ drop (k + length bs) s

abbrev pub Bytes : List ℕ → Type 0
Bytes s = (i : ℕ) → get_or s i 0 < 256
