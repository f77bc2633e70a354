-- `put_item::Source::measure` meets its contract: the items of the numbers so far are counted.
use native.Mathlib.Omega.{arith}
use Rattle.lists.proofs.Each.{each_at}
use Rattle.put_item.proofs.Measuring.{measuring-more, measuring-done, next_small}
use Rattle.put_item.proofs.Source.measure.Goals as goal

pub entry-e-requires : goal.entry-e-requires
entry-e-requires c = rw c.from.ensures (each_at _ c.args.numbers.now c.loop-k.k-index c.requires.each (omega arith)).item

pub overflow_add-digests : goal.overflow_add-digests
overflow_add-digests c =
    let s = next_small _ _ _ _ _ _ _ _ c.loop-k.invariant (omega arith) _ (rw c.from.ensures at c.entry-e.ensures) c.requires.each in
    omega arith

pub overflow_add-extents : goal.overflow_add-extents
overflow_add-extents c =
    let s = next_small _ _ _ _ _ _ _ _ c.loop-k.invariant (omega arith) _ (rw c.from.ensures at c.entry-e.ensures) c.requires.each in
    omega arith

pub loop-k-preserved : goal.loop-k-preserved
loop-k-preserved c =
    measuring-more _ _ _ _ _ _ _ _ c.loop-k.invariant (omega arith) _ (rw c.from.ensures at c.entry-e.ensures) _ c.max-visibility.ensures c.requires.each

pub returns : goal.returns
returns c = measuring-done _ _ _ _ _ _ _ _ c.loop-k.invariant (omega arith)
