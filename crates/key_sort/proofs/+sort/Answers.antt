-- `key_sort::sort` meets its contract: the length falls at each call, and sorted halves, joined, are the whole, sorted.
use native.Mathlib.Omega.{arith}
use Rattle.lists.proofs.Each.{each_take, each-drop}
use Rattle.key.proofs.ItemOrder.{item-order}
use Rattle.key_sort.proofs.Halves.{short-sorted, halves-each, halves-join, halves-sort}
use Rattle.key_sort.proofs.+sort.Goals as goal

pub returns-then-n-lt2 : goal.returns-then-n-lt2
returns-then-n-lt2 t c = search short-sorted

pub sort-requires : goal.sort-requires
sort-requires t c =
    let split = c.split_at_mut-left.ensures in
    (omega arith, (rw split.front (each_take _ _ c.args.numbers.now c.requires.all_hinted), omega arith))

pub sort-requires-2 : goal.sort-requires-2
sort-requires-2 t c =
    let split = c.split_at_mut-left.ensures in
    (omega arith, (rw split.back (each-drop _ _ c.args.numbers.now c.requires.all_hinted), omega arith))

pub join-requires-clause-all_hinted : goal.join-requires-clause-all_hinted
join-requires-clause-all_hinted t c =
    let split = c.split_at_mut-left.ensures in
    halves-each _ c.args.numbers.now _ _ _ _ _ split.front split.back c.sort.ensures c.sort-2.ensures _ c.requires.all_hinted

pub join-requires-clause-joins : goal.join-requires-clause-joins
join-requires-clause-joins t c =
    let split = c.split_at_mut-left.ensures in
    halves-join _ c.args.numbers.now _ _ _ _ _ split.front split.back c.sort.ensures c.sort-2.ensures (omega arith) (item-order _ _ _) (omega arith)

pub returns : goal.returns
returns t c =
    let split = c.split_at_mut-left.ensures in
    halves-sort _ c.args.numbers.now _ _ _ _ _ split.front split.back c.sort.ensures c.sort-2.ensures (omega arith) (item-order _ _ _) c.join.ensures
