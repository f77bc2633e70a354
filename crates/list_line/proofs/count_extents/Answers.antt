-- `list_line::count_extents` meets its contract: the extents of k records are counted.
use native.Mathlib.Omega.{arith}
use Rattle.list_line.proofs.LinesPut.{counting_more, counting-done}
use Rattle.list_line.proofs.count_extents.Goals as goal

pub loop-k-preserved : goal.loop-k-preserved
loop-k-preserved c = rw c.from-sum.ensures (counting_more _ _ _ c.requires _ _ c.loop-k.invariant c.loop-k-test.true _ c.nth_record-r.ensures)

pub returns : goal.returns
returns c = counting-done _ _ _ c.requires _ _ c.loop-k.invariant (omega arith)
