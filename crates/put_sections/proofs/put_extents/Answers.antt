-- `put_sections::put_extents` meets its contract: the extents of the items so far are put.
use native.Mathlib.Omega.{arith}
use Rattle.lists.proofs.Each.{each_at}
use Rattle.put_sections.proofs.Turns.{extents-held, extending-room, extending-more, extending-done}
use Rattle.put_sections.proofs.put_extents.Goals as goal

pub entry-e-requires : goal.entry-e-requires
entry-e-requires c = rw c.from.ensures (each_at _ c.args.numbers.now c.loop-i.i-index c.requires.lines (omega arith)).counted.item

pub put_list-requires : goal.put_list-requires
put_list-requires c =
    let e = rw c.from.ensures at c.entry-e.ensures in
    record {
      held = extents-held _ _ _ _ _ _ _ _ _ c.loop-i.invariant _ (omega arith) e c.requires.lines;
      count_in_bounds = extending-room _ _ _ _ _ _ _ _ _ c.loop-i.invariant _ (omega arith) e c.requires.lines c.requires.out_len;
    }

pub overflow_mul-at : goal.overflow_mul-at
overflow_mul-at c =
    omega (arith, extending-room _ _ _ _ _ _ _ _ _ c.loop-i.invariant _ (omega arith) (rw c.from.ensures at c.entry-e.ensures) c.requires.lines c.requires.out_len)

pub overflow_add-at : goal.overflow_add-at
overflow_add-at c =
    omega (arith, extending-room _ _ _ _ _ _ _ _ _ c.loop-i.invariant _ (omega arith) (rw c.from.ensures at c.entry-e.ensures) c.requires.lines c.requires.out_len)

pub loop-i-preserved : goal.loop-i-preserved
loop-i-preserved c =
    extending-more _ _ _ _ _ _ _ _ _ c.loop-i.invariant _ (omega arith) (rw c.from.ensures at c.entry-e.ensures) c.requires.lines _ c.put_list.ensures c.requires.out_len

pub returns : goal.returns
returns c = extending-done _ _ _ _ _ _ _ _ _ c.loop-i.invariant (omega arith) c.requires.out_len
