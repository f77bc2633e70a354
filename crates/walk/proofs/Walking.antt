-- A promise of the walk allows one answer only.
-- Assumes nothing.
use mathlib.Core.Path.{◌≡◌, sym, ap, ap₂, ◌∙◌}
use mathlib.Core.List.{List}
use Prim.Native.Nat.{ℕ}
use denote.Ref.{Bor}
use Rattle.segment.specs.Walk.{next_place, step_answer, step_of, Step}
use Rattle.segment.proofs.StepSettled.{step-settled}
use Rattle.walk.specs.declared.Walker.{Walker}
use Rattle.walk.specs.Taken.{Taken}

unfoldable made : Bor (List ℕ) → ℕ → Walker
made s k = record { segment = s; at = k }

same-walker : (v w : Walker) → v.segment ≡ w.segment → v.at ≡ w.at → v ≡ w
unfolding made
same-walker v w e f = ap₂ made e f

pub one-step : (pairs s : List ℕ) (k : ℕ) (t u : Step) → step_answer t ≡ step_of pairs s k → step_answer u ≡ step_of pairs s k → t ≡ u
one-step pairs s k t u p q = step-settled t u (p ∙ sym q)

pub one-start : (s : Bor (List ℕ)) (v w : Walker) → (v.segment ≡ s) × (v.at ≡ 0) → (w.segment ≡ s) × (w.at ≡ 0) → v ≡ w
one-start s v w p q = same-walker v w (p.0 ∙ sym q.0) (p.1 ∙ sym q.1)

pub one-next : (pairs : List ℕ) (w : Walker) (y z : Step × Walker) → Taken pairs w y → Taken pairs w z → (y.0 ≡ z.0) × (y.1 ≡ z.1)
one-next pairs w y z p q =
    let same = step-settled y.0 z.0 (p.0 ∙ sym q.0) in
    (same, same-walker y.1 z.1 (p.1 ∙ sym q.1) (p.2 ∙ ap (λ (t : Step). next_place t w.at) same ∙ sym q.2))
