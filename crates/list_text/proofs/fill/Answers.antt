-- `list_text::fill` meets its contract: what is put, and what is filled from the place that it has come to, are the whole.
use Rattle.std.proofs.Common.{refl, sym, ◌∙◌, rules}
use native.Mathlib.Omega.{arith}
use Rattle.list_text.proofs.Fills.{filling-start, filling-more, filling-less, filling-done, filling-full}
use Rattle.list_text.proofs.fill.Goals as goal
use Rattle.list_text.proofs.fill.Goals.{then-loop-text-test+else-not-is_done, else-loop-text-test}

pub loop-text-init : goal.loop-text-init
loop-text-init c = filling-start _ _ _ refl

pub loop-text-smaller : goal.loop-text-smaller
loop-text-smaller c = filling-less _ _ _ _ _ c.loop-text.invariant (sym c.is_done.ensures ∙ c.if-not-is_done.true) _ _ c.put_piece-next.ensures

pub loop-text-preserved : goal.loop-text-preserved
loop-text-preserved c = filling-more _ _ _ _ _ c.loop-text.invariant (sym c.is_done.ensures ∙ c.if-not-is_done.true) _ _ c.put_piece-next.ensures c.loop-text-test.true

pub returns : goal.returns
returns c =
    elim c.loop-text-test.branch [
      | then-loop-text-test+else-not-is_done w ↦ filling-done _ _ _ _ _ c.loop-text.invariant _ (search rules) (sym w.is_done.ensures ∙ w.if-not-is_done.false)
      | else-loop-text-test w ↦ filling-full _ _ _ _ _ c.loop-text.invariant _ (search rules) (omega (arith, w.loop-text-test))
    ]
