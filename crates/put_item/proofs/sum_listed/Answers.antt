-- `put_item::sum_listed` meets its contract: the extents before the j-th are added up.
use native.Mathlib.Omega.{arith}
use Rattle.put_item.proofs.ItemColumns.{adding-fits, adding-more, adding-done}
use Rattle.put_item.proofs.sum_listed.Goals as goal

pub overflow_add-sum-in-loop-j : goal.overflow_add-sum-in-loop-j
overflow_add-sum-in-loop-j c = omega (arith, adding-fits _ _ _ _ _ c.loop-j.invariant (omega arith) c.requires.count_bound)

pub loop-j-preserved : goal.loop-j-preserved
loop-j-preserved c = adding-more _ _ _ _ _ c.loop-j.invariant (omega arith)

pub returns : goal.returns
returns c = adding-done _ _ _ _ _ c.loop-j.invariant (omega arith)
