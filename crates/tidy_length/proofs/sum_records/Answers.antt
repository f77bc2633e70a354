-- `tidy_length::sum_records` meets its contract: k records are summed up.
use native.Mathlib.Omega.{arith}
use Rattle.check_book.proofs.Readable.{record-inside}
use Rattle.tidy_length.proofs.Summing.{summing_start, next_small, summing-more, summing-done}
use Rattle.tidy_length.proofs.sum_records.Goals as goal

pub loop-k-init : goal.loop-k-init
loop-k-init c = summing_start _ _ _

pub nth_record-r-requires : goal.nth_record-r-requires
nth_record-r-requires c = let laid = c.requires.laid in record { shaped = laid.shaped; record_size_in_bounds = record-inside laid _ c.loop-k-test.true }

pub overflow_add-digests : goal.overflow_add-digests
overflow_add-digests c =
    omega (arith, next_small _ _ _ c.requires _ _ _ c.loop-k.invariant c.loop-k-test.true _ c.nth_record-r.ensures, c.requires.laid.layout.few, c.loop-k.invariant.short)

pub overflow_add-extents : goal.overflow_add-extents
overflow_add-extents c =
    omega (arith, next_small _ _ _ c.requires _ _ _ c.loop-k.invariant c.loop-k-test.true _ c.nth_record-r.ensures, c.requires.laid.layout.few, c.loop-k.invariant.few)

pub loop-k-preserved : goal.loop-k-preserved
loop-k-preserved c =
    summing-more _ _ _ c.requires _ _ _ c.loop-k.invariant c.loop-k-test.true _ c.nth_record-r.ensures

pub returns : goal.returns
returns c = summing-done _ _ _ c.requires _ _ _ c.loop-k.invariant (omega arith)
