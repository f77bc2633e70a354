-- `key_join::join` meets its contract: parts that stand in order are the merge of them, and other parts are merged and copied back.
use Prim.Native.Nat.{◌-◌}
use native.Mathlib.Omega.{arith}
use Rattle.lists.proofs.Each.{each_at, each_take, each-drop}
use Rattle.key.specs.Lent.{leq_in}
use Rattle.key.proofs.ItemOrder.{item-order}
use Rattle.key_hint.specs.Lent.{HasHint}
use Rattle.key_join.proofs.Joining.{stands-joined}
use Rattle.key_join.proofs.join.Goals as goal

pub comes_first-requires : goal.comes_first-requires
comes_first-requires c =
    let j = c.requires.joins in
    let last : HasHint c.args.keys c.from-last.result = rw c.from-last.ensures (each_at _ _ (c.args.m - 1) c.requires.all_hinted (omega (arith, j.others))) in
    let next : HasHint c.args.keys c.from-next.result = rw c.from-next.ensures (each_at _ _ c.args.m c.requires.all_hinted j.others) in
    record { hinted = search last; hinted_2 = search next }

pub returns-then-comes_first : goal.returns-then-comes_first
returns-then-comes_first c =
    stands-joined (leq_in c.args.keys.items) c.args.numbers.now c.args.m c.requires.joins (item-order _ _ _) (cc)

pub merge-requires-clause-all_hinted : goal.merge-requires-clause-all_hinted
merge-requires-clause-all_hinted c = rw c.split_at.ensures.front (each_take _ c.args.m _ c.requires.all_hinted)

pub merge-requires-clause-all_hinted_2 : goal.merge-requires-clause-all_hinted_2
merge-requires-clause-all_hinted_2 c = rw c.split_at.ensures.back (each-drop _ c.args.m _ c.requires.all_hinted)
