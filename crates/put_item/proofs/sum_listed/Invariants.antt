-- `put_item::sum_listed` meets its contract: the extents before the j-th are added up.
use Rattle.put_item.proofs.ItemColumns.{Adding}
use Rattle.put_item.proofs.sum_listed.Given as goal

abbrev pub invariant-loop-j : goal.invariant-loop-j
invariant-loop-j l = Adding l.extents l.first l.count l.j l.sum
