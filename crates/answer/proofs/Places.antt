-- Where verdicts refuse: below a bound, whatever the rules are.
--   Placed     a verdict that accepts, or refuses at a place below a bound
-- Assumes nothing.
use Prim.Native.Nat.{ℕ, zero, suc, ◌<◌}
use mathlib.Core.Path.{◌≡◌, refl}
use mathlib.Core.Bool.{Bool, true, false, cond}
use native.Mathlib.Omega.{arith}
use Rattle.std.specs.Prelude.{Err}
use Rattle.answer.specs.declared.Rule.{Rule}
use Rattle.answer.specs.declared.Refusal.{Refusal}
use Rattle.answer.specs.Rules.{must, ◌then◌, first_over, Verdict, accepted}
use Rattle.answer.specs.Answers.{refusal}

pub data Placed (b : ℕ) : Verdict → Type 0 where
  accepts : Placed b accepted
  refuses : {q : Refusal} → q.1 < b → Placed b (Err q)

pub placed-must : {b : ℕ} (t : Bool) (rule : Rule) (p : ℕ) → p < b → Placed b (must t (refusal rule p))
placed-must true rule p l = accepts
placed-must false rule p l = refuses l

pub placed-then : {b : ℕ} {v w : Verdict} → Placed b v → Placed b w → Placed b (v then w)
placed-then accepts o = o
placed-then (refuses l) o = refuses l

-- of a rule that is tried where those before it are kept
pub placed-after : {b : ℕ} {v : Verdict} (w : Verdict) → Placed b v → (v ≡ accepted → Placed b w) → Placed b (v then w)
placed-after w accepts o = o refl
placed-after w (refuses l) o = refuses l

pub placed-cond : (t : Bool) {b : ℕ} {v w : Verdict} → Placed b v → Placed b w → Placed b (cond t v w)
placed-cond true o p = o
placed-cond false o p = p

pub placed_first : {b : ℕ} (n : ℕ) (f : ℕ → Verdict) → ((k : ℕ) → k < n → Placed b (f k)) → Placed b (first_over n f)
unfolding first_over
placed_first zero f o = accepts
placed_first (suc n) f o = placed-then (placed_first n f (λ k l. o k (omega arith))) (o n (omega arith))

pub ruleset placed-rows = (placed-must, placed-then, placed-cond)

-- the place of such a refusal
pub placed_below : {b : ℕ} {v : Verdict} → Placed b v → (r : Refusal) → v ≡ Err r → r.1 < b
placed_below accepts r e = let z : ◌≡◌ {A = ℕ} 0 1 = cc in absurd (omega arith)
placed_below {b} (refuses {q} l) r e = let f : q ≡ r = cc in rw f at l
