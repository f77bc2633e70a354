-- `crc64_fast::word` meets its contract: after k turns k bytes are packed.
use mathlib.Core.Path.{refl}
use native.Mathlib.Omega.{arith}
use lib.ListN.{get_or}
use Rattle.crc64_fast.specs.Word.{packed}
use Rattle.crc64_fast.proofs.Slices.{pack}
use Rattle.crc64_fast.proofs.word.Goals as goal

pub loop-k-init : goal.loop-k-init
unfolding packed
loop-k-init c = refl

pub loop-k-preserved : goal.loop-k-preserved
loop-k-preserved c =
    let at = c.loop-k in
    pack at.k (λ j. get_or c.args.s.now j 0) (omega arith) (λ j. (c.type_inv.s j).fits) at.invariant c.from.ensures
