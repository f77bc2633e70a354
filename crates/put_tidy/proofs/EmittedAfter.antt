-- What is left where a verdict comes before the size: nothing is touched where it refuses, and where it accepts the form is emitted.
-- Assumes nothing.
use Prim.Native.Nat.{ℕ}
use mathlib.Core.Path.{◌≡◌, refl, ap, ◌∙◌}
use mathlib.Core.List.{List}
use lib.ListN.{length}
use Rattle.std.specs.Prelude.{Err}
use Rattle.answer.specs.Answers.{Written}
use Rattle.answer.specs.Rules.{Verdict, accepted}
use Rattle.answer.specs.declared.Refusal.{Refusal}
use Rattle.segment.specs.Tidy.{settled, output_after, outcome}
use Rattle.put_form.specs.Emit.{EmittedAfter, Emitted}

module _ (v : Verdict) (form out : List ℕ) where
  pub emitted-refused : (x : Refusal) → v ≡ Err x → EmittedAfter v form out out (Err x)
  unfolding settled
  emitted-refused x e = record { answer = rw e; output = refl }

  pub emitted-written : (form' after : List ℕ) (w : Written) → v ≡ accepted → form' ≡ form → Emitted form' out after w → EmittedAfter v form out after w
  emitted-written form' after w e f h = record { answer = rw (e, ← f) h.answer; output = rw (← f) h.output }

  -- a verdict that comes to the same
  pub emitted-under : (u : Verdict) (after : List ℕ) (w : Written) → u ≡ v → EmittedAfter u form out after w → EmittedAfter v form out after w
  emitted-under u after w e h = rw e at h

  pub emitted-outcome : (after : List ℕ) (w : Written) → EmittedAfter v form out after w → outcome w after ≡ outcome (settled v form (length out)) (output_after (settled v form (length out)) form out)
  emitted-outcome after w h = ap (λ (a : List ℕ). outcome w a) h.output ∙ ap (λ (u : Written). outcome u (output_after u form out)) h.answer
