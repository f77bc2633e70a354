-- `table::good_pairs` meets its contract: what the whole list says is what its rest says.
use Rattle.std.proofs.Common.{◌≡◌, length}
use Rattle.table.specs.Table.{good_pairs}
use Rattle.table.proofs.good_pairs.Given as goal

abbrev pub invariant-loop-rest : goal.invariant-loop-rest
invariant-loop-rest l = good_pairs l.pairs ≡ good_pairs l.rest

abbrev pub decreases-loop-rest : goal.decreases-loop-rest
decreases-loop-rest l = length l.rest
