-- `tidy_length::sum_records` meets its contract: k records are summed up.
use Rattle.tidy_length.proofs.Summing.{Summing}
use Rattle.tidy_length.proofs.sum_records.Given as goal

abbrev pub invariant-loop-k : goal.invariant-loop-k
invariant-loop-k l = Summing l.sh l.seg l.fn.h l.k l.digests l.extents
