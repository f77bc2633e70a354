-- `key_sort::count_up` meets its contract: k numbers are counted.
use native.Mathlib.Omega.{arith}
use Rattle.key_sort.proofs.Counting.{none-counted, one-more}
use Rattle.key_sort.proofs.count_up.Goals as goal

pub loop-k-init : goal.loop-k-init
loop-k-init c = none-counted

pub loop-k-preserved : goal.loop-k-preserved
loop-k-preserved c = one-more _ _ c.loop-k.invariant (omega arith)
