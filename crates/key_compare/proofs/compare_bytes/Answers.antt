-- `key_compare::compare_bytes` meets its contract: the bytes passed are equal, and what is left decides.
use mathlib.Core.Path.{refl, ◌∙◌}
use native.Mathlib.Omega.{arith}
use Rattle.key_compare.proofs.Compare.{at-unlike, at-equal}
use Rattle.key_compare.proofs.compare_bytes.Goals as goal

pub loop-i-init : goal.loop-i-init
loop-i-init c = refl

pub returns-then-a-i : goal.returns-then-a-i
returns-then-a-i c = c.cmp.ensures ∙ at-unlike c.args.a.now c.args.b.now c.loop-i.i c.loop-i.invariant (omega arith) (omega arith) c.if-a-i.true

pub loop-i-preserved : goal.loop-i-preserved
loop-i-preserved c = at-equal c.args.a.now c.args.b.now c.loop-i.i c.loop-i.invariant (omega arith) (omega arith) c.if-a-i.false
