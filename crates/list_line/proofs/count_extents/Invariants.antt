-- `list_line::count_extents` meets its contract: the extents of k records are counted.
use Rattle.list_line.proofs.LinesPut.{Counting}
use Rattle.list_line.proofs.count_extents.Given as goal

abbrev pub invariant-loop-k : goal.invariant-loop-k
invariant-loop-k l = Counting l.sh l.seg l.h l.k l.sum
