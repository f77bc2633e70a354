-- The checksum of bytes that come in parts.
--   crc_on    the checksum of some bytes and then of s, where c is the checksum of those before
-- Assumes nothing.
use Rattle.std.specs.Prelude.{List, ℕ}
use Rattle.std.specs.Int.Bits.{bit_xor}
use Rattle.crc64.specs.Crc.{ones, run}

unfoldable pub crc_on : ℕ → List ℕ → ℕ
crc_on c s = bit_xor (run (bit_xor c ones) s) ones
