-- The store's table as C lends it: bytes, eight to a number.
--   table_in   the numbers that the bytes hold
--   taken     those of them that are copied into a table by value
-- Assumes nothing: these are definitions.
use Rattle.std.specs.Prelude.{ℕ, ◌*◌, ◌/◌, ◌%◌, Bool, cond, ◌&&◌, List, [], map, leb, eqb, length}
use Rattle.numbers.specs.Numbers.{num_at}
use Rattle.lists.specs.Lists.{count_from}

-- number k of a run of bytes, eight bytes to a number
abbrev pub word_no : List ℕ → ℕ → ℕ
word_no bytes k = num_at 8 bytes (8 * k)

-- the numbers of a table; where the last number is unfinished there is no table, and the empty list is none
unfoldable pub table_in : List ℕ → List ℕ
table_in bytes = cond (eqb (length bytes % 8) 0) (map (word_no bytes) (count_from 0 (length bytes / 8))) []

-- whole numbers, at most 32
abbrev pub fits_table : List ℕ → Bool
fits_table bytes = eqb (length bytes % 8) 0 && leb (length bytes) 256

-- none where they do not fit
unfoldable pub taken : List ℕ → List ℕ
taken bytes = cond (fits_table bytes) (table_in bytes) []
