-- `c_table::Lent::new` meets its contract: after i turns i numbers stand in front of zeros; and so many numbers are lent of the array.
use native.Mathlib.Omega.{arith}
use Rattle.table.proofs.Pairs.{filling-done, front-is}
use Rattle.c_table.proofs.Taking.{word, taken_fits, taking-more}
use Rattle.c_table.proofs.Lent.new.Goals as goal

pub overflow_mul-i : goal.overflow_mul-i
overflow_mul-i c = let w = word _ _ c.loop-i.i c.count_in-count.ensures (omega arith) in omega (arith, w.place)

pub read-requires : goal.read-requires
read-requires c = let w = word _ _ c.loop-i.i c.count_in-count.ensures (omega arith) in omega (arith, w.inside)

pub offset_bounds-table-i : goal.offset_bounds-table-i
offset_bounds-table-i c = let w = word _ _ c.loop-i.i c.count_in-count.ensures (omega arith) in omega (arith, w.place)

pub bounds-table-i : goal.bounds-table-i
bounds-table-i c = (word _ _ c.loop-i.i c.count_in-count.ensures (omega arith)).place

pub loop-i-preserved : goal.loop-i-preserved
loop-i-preserved c = taking-more _ _ _ _ c.loop-i.invariant (word _ _ c.loop-i.i c.count_in-count.ensures (omega arith)) c.read.ensures

pub invariant_of-result : goal.invariant_of-result
invariant_of-result c = omega (arith, c.count_in-count.ensures, taken_fits c.args.bytes.now)

pub returns : goal.returns
returns c = rw c.count_in-count.ensures (front-is _ _ (filling-done _ _ _ c.loop-i.invariant (omega (arith, c.count_in-count.ensures))))
