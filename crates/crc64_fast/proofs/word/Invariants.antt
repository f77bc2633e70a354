-- `crc64_fast::word` meets its contract: after k turns k bytes are packed.
use mathlib.Core.Path.{◌≡◌}
use lib.ListN.{get_or}
use Rattle.crc64_fast.specs.Word.{packed}
use Rattle.crc64_fast.proofs.word.Given as goal

abbrev pub invariant-loop-k : goal.invariant-loop-k
invariant-loop-k l = l.w ≡ packed (λ j. get_or l.s j 0) l.k
