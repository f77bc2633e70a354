-- `check_records::check_records` meets its contract: nothing is refused below k, and the largest visibility is that of the records below it.
use Rattle.check_records.proofs.RecordsPass.{Passing}
use Rattle.check_records.proofs.check_records.Given as goal

abbrev pub invariant-loop-k : goal.invariant-loop-k
invariant-loop-k l = Passing l.sh l.pairs l.seg l.h l.k l.largest
