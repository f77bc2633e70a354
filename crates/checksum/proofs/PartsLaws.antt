-- The laws of a checksum in parts.
--   crc-on      from the checksum of the parts before it is the checksum of all
--   crc-first   from 0 it is the checksum of the part alone
-- Assumes nothing.
use mathlib.Core.Path.{◌≡◌, refl, ap, ◌∙◌}
use mathlib.Core.List.{List, ◌++◌}
use Prim.Native.Nat.{ℕ}
use lib.Bits.{bit_xor, xor_self, xor_zero_r}
use Rattle.crc64.specs.Crc.{ones, run, crc}
use Rattle.crc64.proofs.CrcLaws.{crc-parts}
use Rattle.crc64_laws.proofs.Xor.{xor_assoc}
use Rattle.checksum.specs.Parts.{crc_on}

pub crc-on : (s t : List ℕ) → crc_on (crc s) t ≡ crc (s ++ t)
unfolding crc_on crc
crc-on s t =
    ap (λ (c : ℕ). bit_xor (run c t) ones) (xor_assoc (run ones s) ones ones ∙ ap (bit_xor (run ones s)) (xor_self ones) ∙ xor_zero_r (run ones s))
    ∙ crc-parts s t

pub crc-first : (s : List ℕ) → crc_on 0 s ≡ crc s
unfolding crc_on crc
crc-first s = refl
