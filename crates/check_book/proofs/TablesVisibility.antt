-- The table of 11 and its rule, over all the records: it accepts exactly when the rule is kept, and where it is broken it gives its refusal.
-- Assumes nothing.
use Prim.Native.Nat.{ℕ, zero, suc, ◌≤◌, ◌<◌}
use mathlib.Core.Path.{◌≡◌, sym, ◌∙◌}
use mathlib.Core.Logic.{◌↔◌, ⊎_elim, by_cases}
use mathlib.Core.List.{List}
use native.Mathlib.Nat.{not-suc-le-zero, eq-or-lt_of_le, le_of_suc-le-suc}
use native.Mathlib.Decide.{dec_le, ℕ_discrete}
use native.Mathlib.Omega.{arith}
use Rattle.std.specs.Prelude.{Err}
use Rattle.answer.specs.Rules.{accepted}
use Rattle.answer.specs.declared.Rule.TheVariants.{Visibility}
use Rattle.answer.specs.Answers.{refusal}
use Rattle.answer.proofs.Order.{rows}
use Rattle.segment.specs.declared.header.Header.{Header}
use Rattle.segment.specs.declared.shape.Shape.{Shape}
use Rattle.segment.specs.Format.{record_count}
use Rattle.segment.specs.Check.{visibility_no, largest_below, visibility_verdict}
use Rattle.segment.specs.Meets.{VisibilityMeets}
use Rattle.check_book.proofs.OneRefusal.{only-rows, broken}

-- ---- 11

-- the largest below a bound: none is above it, and where there is one, it is one of them
largest-above : (n : ℕ) (f : ℕ → ℕ) (k : ℕ) → k < n → f k ≤ largest_below n f
unfolding largest_below
largest-above zero f k l = absurd (not-suc-le-zero l)
largest-above (suc n) f k l =
    ⊎_elim
    (λ (e : k ≡ n). rw e (omega arith))
    (λ (i : k < n). omega (arith, largest-above n f k i))
    (eq-or-lt_of_le (le_of_suc-le-suc l))

largest-attained : (n : ℕ) (f : ℕ → ℕ) → 0 < n → (at : ℕ) × (at < n) × (f at ≡ largest_below n f)
unfolding largest_below
largest-attained zero f l = absurd (not-suc-le-zero l)
largest-attained (suc zero) f l = (0, omega arith, omega arith)
largest-attained (suc (suc n)) f l =
    let a = largest-attained (suc n) f (omega arith) in
    by_cases (dec_le (f (suc n)) (largest_below (suc n) f))
    (λ (h : f (suc n) ≤ largest_below (suc n) f). (a.0, omega arith, omega arith))
    (λ (h : ¬ (f (suc n) ≤ largest_below (suc n) f)). (suc n, omega arith, omega arith))

largest-none : (n : ℕ) (f : ℕ → ℕ) → n ≡ 0 → largest_below n f ≡ 0
unfolding largest_below
largest-none n f e = rw e

module _ (sh : Shape) (s : List ℕ) (h : Header) where
  largest : ℕ
  largest = largest_below (record_count h) (visibility_no sh s h)

  largest-meets : h.visibility ≡ largest → VisibilityMeets sh s h
  unfolding largest
  largest-meets e = record {
    largest = λ k l. omega (arith, largest-above (record_count h) (visibility_no sh s h) k l);
    none = λ z. e ∙ largest-none (record_count h) (visibility_no sh s h) z;
    shown = λ l.
        let a = largest-attained (record_count h) (visibility_no sh s h) l in
        record { at = a.0; within = a.1; here = a.2 ∙ sym e };
  }

  shown-largest : VisibilityMeets sh s h → 0 < record_count h → h.visibility ≡ largest
  unfolding largest
  shown-largest m l =
      let a = largest-attained (record_count h) (visibility_no sh s h) l in
      let b = m.shown l in
      omega (arith, m.largest a.0 a.1, largest-above (record_count h) (visibility_no sh s h) b.at b.within)

  meets-largest : VisibilityMeets sh s h → h.visibility ≡ largest
  unfolding largest
  meets-largest m =
      by_cases (ℕ_discrete (record_count h) 0)
      (λ (z : record_count h ≡ 0). m.none z ∙ sym (largest-none (record_count h) (visibility_no sh s h) z))
      (λ (z : ¬ (record_count h ≡ 0)). shown-largest m (omega arith))

  pub visibility-book : visibility_verdict sh s h ≡ accepted ↔ VisibilityMeets sh s h
  unfolding visibility_verdict largest
  visibility-book = simp rows (largest-meets, meets-largest)

  pub visibility-broken : ¬ VisibilityMeets sh s h → visibility_verdict sh s h ≡ Err (refusal Visibility 0)
  unfolding visibility_verdict
  visibility-broken = broken (search only-rows) visibility-book
