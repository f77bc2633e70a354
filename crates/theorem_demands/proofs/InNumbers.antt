-- A service's refusal in numbers is the refusal itself, since the numbers settle the answer: when one is given, the other is. Said once, of any
-- service.
-- Assumes nothing.
use mathlib.Core.Path.{◌≡◌, sym, ap, ◌∙◌}
use mathlib.Core.Logic.{◌↔◌}
use Rattle.answer.specs.declared.Refusal.{Refusal}
use Rattle.answer.specs.Answers.{Answer, refused}

pub in-numbers : {A : Type 0} (say : A → Answer) (stop : Refusal → A) → ((v w : A) → say v ≡ say w → v ≡ w) → ((r : Refusal) → say (stop r) ≡ refused r)
    → (v : A) {G : Refusal → Type 0} → ((r : Refusal) → v ≡ stop r ↔ G r) → (r : Refusal) → say v ≡ refused r ↔ G r
in-numbers say stop settles same v given r =
    (λ e. (given r).0 (settles v (stop r) (e ∙ sym (same r))), λ g. ap say ((given r).1 g) ∙ same r)
