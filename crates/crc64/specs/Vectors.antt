-- The definition computes: the check value that is published with CRC-64 of the .xz format, and the checksum of nothing.
-- Assumes nothing.
use Rattle.std.specs.Prelude.{◌≡◌, refl, [], ◌∷◌}
use Rattle.crc64.specs.Crc.{step, steps, byte, run, crc}

-- "123456789"
pub check-value : crc (49 ∷ 50 ∷ 51 ∷ 52 ∷ 53 ∷ 54 ∷ 55 ∷ 56 ∷ 57 ∷ []) ≡ 0x995DC9BBDF1939FA
unfolding step steps byte run crc
check-value = refl

pub of-nothing : crc [] ≡ 0
unfolding step steps byte run crc
of-nothing = refl
