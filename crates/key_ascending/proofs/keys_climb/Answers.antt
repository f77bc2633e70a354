-- `key_ascending::keys_climb` meets its contract: i of the items climb, and the hint of the last of them is at hand.
use mathlib.Core.Path.{sym, ◌∙◌}
use native.Mathlib.Omega.{arith}
use Rattle.key_ascending.proofs.Climbing.{none-climb, climbing-start, climbs-by-key, climbs-by-hint, falls, climbed}
use Rattle.key_ascending.proofs.keys_climb.Goals as goal
use Rattle.key_ascending.proofs.keys_climb.Goals.{then-own-before+else-comes_first, else-own-before}

pub returns-then-n-lt1 : goal.returns-then-n-lt1
returns-then-n-lt1 c = sym (none-climb _ _ c.if-n-lt1.true)

pub loop-i-init : goal.loop-i-init
loop-i-init c = climbing-start _ _ _ c.hint-before.ensures

pub returns-then-comes_first : goal.returns-then-comes_first
returns-then-comes_first c = let loop = c.loop-i in sym (falls _ _ loop.i (omega arith) (omega arith) (sym c.comes_first.ensures ∙ c.if-comes_first.true))

pub loop-i-preserved : goal.loop-i-preserved
loop-i-preserved c =
    let loop = c.loop-i in
    let told = c.hint-own.ensures in
    elim c.if-own-before.branch [
      | then-own-before+else-comes_first w ↦ climbs-by-key _ _ _ loop.invariant told (sym w.comes_first.ensures ∙ w.if-comes_first.false)
      | else-own-before w ↦ climbs-by-hint _ _ _ loop.invariant told w.if-own-before.false
    ]

pub returns : goal.returns
returns c = sym (climbed _ _ _ _ _ _ c.loop-i.invariant (omega arith))
