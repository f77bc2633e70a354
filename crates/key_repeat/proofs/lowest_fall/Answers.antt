-- `key_repeat::lowest_fall` meets its contract: the numbers before k have been looked at.
use Prim.Native.Nat.{suc, ◌+◌, ◌-◌}
use mathlib.Core.Path.{◌≡◌, ◌∙◌}
use mathlib.Core.Bool.{true, false}
use native.Mathlib.Omega.{arith}
use lib.ListN.{length, get_or}
use Rattle.lists.proofs.Each.{each_at}
use Rattle.key.specs.Lent.{leq_in}
use Rattle.key_hint.specs.Lent.{HasHint}
use Rattle.key_repeat.proofs.Falling.{none-passed, climbs-on, falls-here}
use Rattle.key_repeat.proofs.lowest_fall.Goals as goal
use Rattle.key_repeat.proofs.lowest_fall.Goals.{then-comes_first, else-comes_first}

pub loop-k-init : goal.loop-k-init
loop-k-init c = (omega arith, none-passed _ _)

pub comes_first-requires : goal.comes_first-requires
comes_first-requires c =
    let here : HasHint c.args.keys c.from-x.result = rw c.from-x.ensures (each_at _ _ c.loop-k.k c.requires (omega arith)) in
    let before : HasHint c.args.keys c.from-before.result = rw c.from-before.ensures (each_at _ _ (c.loop-k.k - 1) c.requires (omega arith)) in
    record { hinted = search here; hinted_2 = search before }

pub loop-k-preserved : goal.loop-k-preserved
loop-k-preserved c =
    let k = c.loop-k.k in
    let leq = leq_in c.args.keys.items in
    let xs = c.args.numbers.now in
    let z : c.loop-k.k + 1 - 1 ≡ c.loop-k.k = omega arith in
    let s : c.loop-k.k ≡ suc (c.loop-k.k - 1) = omega arith in
    let told = c.loop-k.invariant.1 in (
      omega arith,
      rw z (elim c.if-comes_first.branch [
        | then-comes_first w ↦
            let t : leq_in c.args.keys.items (get_or c.args.numbers.now c.loop-k.k 0) (get_or c.args.numbers.now (c.loop-k.k - 1) 0) ≡ true = cc in
            w.least-is ∙ w.min-least.ensures ∙ rw c.from-x.ensures (falls-here leq xs (k - 1) k c.loop-k.least s told t)
        | else-comes_first w ↦
            let t : leq_in c.args.keys.items (get_or c.args.numbers.now c.loop-k.k 0) (get_or c.args.numbers.now (c.loop-k.k - 1) 0) ≡ false = cc in
            w.least-is ∙ climbs-on leq xs (k - 1) k c.loop-k.least s told t
      ]),
    )

pub returns : goal.returns
returns c =
    let e : c.loop-k.k - 1 ≡ length c.args.numbers.now - 1 = omega arith in
    rw e at c.loop-k.invariant.1
