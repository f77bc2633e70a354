-- `put_sections::put_records` meets its contract: k records are put.
use native.Mathlib.Omega.{arith}
use Rattle.lists.proofs.Each.{each_at}
use Rattle.put_sections.proofs.Turns.{record-narrow, record-fits, recording-more, recording-done}
use Rattle.put_sections.proofs.put_records.Goals as goal

pub entry-e-requires : goal.entry-e-requires
entry-e-requires c = rw c.from-i.ensures (each_at _ c.args.numbers.now c.loop-k.k c.requires.lines (omega arith)).counted.item

pub total-requires : goal.total-requires
total-requires c = rw c.from-i.ensures (each_at _ c.args.numbers.now c.loop-k.k c.requires.lines (omega arith))

pub record_for-r-requires : goal.record_for-r-requires
record_for-r-requires c =
    record-narrow _ c.requires.shaped _ _ _ _ _ _ _ _ _ _ _ c.loop-k.invariant _ (omega arith) (rw c.from-i.ensures at c.entry-e.ensures) c.requires.lines

pub overflow_add-digest_at : goal.overflow_add-digest_at
overflow_add-digest_at c =
    omega (arith, record-fits _ c.requires.shaped _ _ _ _ _ _ _ _ _ _ _ c.loop-k.invariant _ (omega arith) (rw c.from-i.ensures at c.entry-e.ensures) c.requires.lines c.requires.near)

pub overflow_mul-extents_at : goal.overflow_mul-extents_at
overflow_mul-extents_at c =
    omega (arith, record-fits _ c.requires.shaped _ _ _ _ _ _ _ _ _ _ _ c.loop-k.invariant _ (omega arith) (rw c.from-i.ensures at c.entry-e.ensures) c.requires.lines c.requires.near)

pub overflow_add-extents_at : goal.overflow_add-extents_at
overflow_add-extents_at c =
    omega (arith, record-fits _ c.requires.shaped _ _ _ _ _ _ _ _ _ _ _ c.loop-k.invariant _ (omega arith) (rw c.from-i.ensures at c.entry-e.ensures) c.requires.lines c.requires.near)

pub loop-k-preserved : goal.loop-k-preserved
loop-k-preserved c =
    recording-more _ c.requires.shaped _ _ _ _ _ _ _ _ _ _ _ c.loop-k.invariant _ (omega arith) (rw c.from-i.ensures at c.entry-e.ensures) c.requires.lines
    _ _ _ (rw c.from-i.ensures at c.total.ensures) c.record_for-r.ensures c.put_record.ensures c.requires.out_len

pub returns : goal.returns
returns c = recording-done _ c.requires.shaped _ _ _ _ _ _ _ _ _ _ _ c.loop-k.invariant (omega arith) c.requires.out_len
