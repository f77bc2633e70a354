-- How many bytes the four structures have, and where a record's total stands.
--   header_size, record_bytes, extent_size, footer_size   the sizes
--   least_record   the bytes of a record that every version has
--   total_in       the total of a record
-- Assumes nothing: these are definitions.
use Rattle.std.specs.Prelude.{ℕ, ◌+◌, Bool, cond, List}
use Rattle.numbers.specs.Numbers.{num_at}

abbrev pub header_size : ℕ
header_size = 112

abbrev pub least_record : ℕ
least_record = 48

-- a record whose total has four bytes, and one whose total has eight, which stand behind all else
abbrev pub record_bytes : Bool → ℕ
record_bytes wide = cond wide 56 least_record

abbrev pub extent_size : ℕ
extent_size = 16

abbrev pub footer_size : ℕ
footer_size = 24

-- the total of the record that begins at a place: of four bytes at byte 28, or wide, of eight at byte 48
abbrev pub total_in : Bool → List ℕ → ℕ → ℕ
total_in wide s at = cond wide (num_at 8 s (at + least_record)) (num_at 4 s (at + 28))
