-- `check_extents::sum_extents` meets its contract: what is left of the extents decides.
use Rattle.check_extents.proofs.ExtentRows.{Summing}
use Rattle.check_extents.proofs.sum_extents.Given as goal

abbrev pub invariant-loop-i : goal.invariant-loop-i
invariant-loop-i l = Summing l.seg l.at.0 l.count l.i l.sum
