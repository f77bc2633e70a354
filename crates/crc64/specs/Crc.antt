-- CRC-64 as the .xz file format defines it, bit by bit: polynomial 0x42F0E1EBA9EA3693, reflected, so that the register
-- moves right and its lowest bit is the next to go; the register starts at all ones and is inverted at the end.
--   poly    the polynomial, its 64 digits reversed
--   ones    all 64 digits set
--   step    one bit: the register moves right by one, and the polynomial is added where a one fell out
--   byte    one byte goes in at the low end, then eight bits
--   run     the register after a list of bytes, from the register before it
--   crc     the checksum of a list of bytes
-- Assumes nothing.
use Rattle.std.specs.Prelude.{List, [], ◌∷◌, ℕ, zero, suc, ◌*◌, ◌/◌, ◌%◌}
use Rattle.std.specs.Int.Bits.{bit_xor}

abbrev pub poly : ℕ
poly = 0xC96C5795D7870F42

abbrev pub ones : ℕ
ones = 0xFFFF_FFFF_FFFF_FFFF

unfoldable pub step : ℕ → ℕ
step c = bit_xor (c / 2) (c % 2 * poly)

unfoldable pub steps : ℕ → ℕ → ℕ
steps zero c = c
steps (suc n) c = step (steps n c)

unfoldable pub byte : ℕ → ℕ → ℕ
byte c b = steps 8 (bit_xor c b)

unfoldable pub run : ℕ → List ℕ → ℕ
run c [] = c
run c (b ∷ s) = run (byte c b) s

unfoldable pub crc : List ℕ → ℕ
crc s = bit_xor (run ones s) ones
