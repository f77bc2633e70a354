-- When a step answers a record, done, or a refusal; and the place after it.
-- Assumes nothing.
use Prim.Native.Nat.{ℕ, ◌+◌, ◌≤◌, ◌<◌}
use mathlib.Core.Path.{◌≡◌, refl, sym, ap, ◌∙◌}
use mathlib.Core.Bool.{Bool, true, false, cond}
use mathlib.Core.Logic.Iff
use mathlib.Core.Logic.{◌↔◌}
use mathlib.Core.List.{List}
use native.Mathlib.Numerals.{add-one}
use native.Mathlib.Omega.{arith}
use borrow.Author.Tests.{le-ltb, ltb-false}
use lib.Dec.{ltb}
use Rattle.std.specs.Prelude.{Err, None, Ok, Some}
use Rattle.answer.specs.declared.Refusal.{Refusal}
use Rattle.answer.specs.Answers.{check_answer}
use Rattle.answer.specs.Rules.{◌then◌, Verdict, accepted}
use Rattle.lists.proofs.Tests.{ltb_iff}
use Rattle.answer.proofs.Settled.{check-settled}
use Rattle.segment.specs.declared.header.Header.{Header}
use Rattle.segment.specs.declared.record.Record.{Record}
use Rattle.segment.specs.Format.{v3, header_of, record_of, record_no, record_count, record_at}
use Rattle.segment.specs.Check.{checked, check_of}
use Rattle.segment.specs.Walk.{stepped, next_place, step_answer, step_of, Step}
use Rattle.check_book.specs.Readable.{Readable}
use Rattle.check_book.proofs.Readable.{checked-readable}
use Rattle.walk_step.specs.declared.Turn.{Turn}
use Rattle.walk_step.specs.Steps.{turn_of}

-- ---- when a step answers so

row-then : (v : Verdict) (b : Bool) (q r : Record) → (v then Ok (cond b (Some q) None)) ≡ Ok (Some r) ↔ (v ≡ accepted) × ((b ≡ true) × (q ≡ r))
row-then (Ok _) true q r = (λ e. (refl, (refl, cc)), λ e. ap (λ (x : Record). Ok (Some x)) e.1.1)
row-then (Ok _) false q r = (λ e. (refl, (cc, cc)), λ e. cc)
row-then (Err x) b q r = (λ e. (cc, (cc, cc)), λ e. cc)

done-then : (v : Verdict) (b : Bool) (q : Record) → (v then Ok (cond b (Some q) None)) ≡ Ok None ↔ (v ≡ accepted) × (b ≡ false)
done-then (Ok _) true q = (λ e. (refl, cc), λ e. cc)
done-then (Ok _) false q = (λ e. (refl, refl), λ e. refl)
done-then (Err x) b q = (λ e. (cc, cc), λ e. cc)

refused-then : (v : Verdict) (b : Bool) (q : Record) (x : Refusal) → (v then Ok (cond b (Some q) None)) ≡ Err x ↔ v ≡ Err x
refused-then (Ok _) b q x = (λ e. cc, λ e. cc)
refused-then (Err y) b q x = (λ e. cc, λ e. cc)

ltb-not : (a b : ℕ) → ltb a b ≡ false ↔ b ≤ a
ltb-not a b = (ltb-false a b, le-ltb a b)

module _ (pairs s : List ℕ) (k : ℕ) where
  pub step-row-iff : (r : Record) → stepped pairs s k ≡ Ok (Some r) ↔ (checked pairs s ≡ accepted) × ((k < record_count (header_of s)) × (record_no v3 s (header_of s) k ≡ r))
  unfolding stepped
  step-row-iff r = simp (row-then, ltb_iff) Iff.rfl

  pub step-done-iff : stepped pairs s k ≡ Ok None ↔ (checked pairs s ≡ accepted) × (record_count (header_of s) ≤ k)
  unfolding stepped
  step-done-iff = simp (done-then, ltb-not) Iff.rfl

  pub step-refused-iff : (x : Refusal) → stepped pairs s k ≡ Err x ↔ checked pairs s ≡ Err x
  unfolding stepped
  step-refused-iff x = simp refused-then Iff.rfl

-- ---- the code's three cases, by what check answered

module _ (pairs s : List ℕ) (v : Verdict) (checks : check_answer v ≡ check_of pairs s) where
  verdict : v ≡ checked pairs s
  unfolding check_of
  verdict = check-settled v (checked pairs s) checks

  pub readable : v ≡ accepted → Readable v3 s (header_of s)
  readable a = checked-readable pairs s (sym verdict ∙ a)

  module _ (k : ℕ) where
    pub stops : (x : Refusal) → v ≡ Err x → Err x ≡ stepped pairs s k
    stops x e = sym ((step-refused-iff pairs s k x).1 (sym verdict ∙ e))

    module _ (a : v ≡ accepted) (h : Header) (e : h ≡ header_of s) where
      pub ends : record_count h ≤ k → Ok None ≡ stepped pairs s k
      ends l =
          let n : record_count (header_of s) ≤ k = rw e at l in
          sym ((step-done-iff pairs s k).1 (sym verdict ∙ a, n))

      pub gives : (r : Record) → k < record_count h → r ≡ record_of v3 s (record_at v3 h k) → Ok (Some r) ≡ stepped pairs s k
      unfolding record_no
      gives r l q =
          let n : k < record_count (header_of s) = rw e at l in
          sym ((step-row-iff pairs s k r).1 (sym verdict ∙ a, (n, ap (λ (x : Header). record_of v3 s (record_at v3 x k)) (sym e) ∙ sym q)))

-- ---- a step, and the place after it

module _ (pairs s : List ℕ) (k : ℕ) (t : Step) (e : t ≡ stepped pairs s k) where
  pub few-rows : (r : Record) → t ≡ Ok (Some r) → k < 65536
  few-rows r f =
      let given = (step-row-iff pairs s k r).0 (sym e ∙ f) in
      omega (arith, given.1.0, (checked-readable pairs s given.0).laid.layout.few)

  turned : (p : ℕ) → p ≡ next_place t k → ◌≡◌ {A = Turn} (record { step = t; at = p }) (turn_of pairs s k)
  turned p h = rw (h, e)

  pub turned-row : (r : Record) → t ≡ Ok (Some r) → ◌≡◌ {A = Turn} (record { step = t; at = k + 1 }) (turn_of pairs s k)
  turned-row r f = turned (k + 1) (add-one k ∙ sym (ap (λ (x : Step). next_place x k) f))

  pub turned-done : t ≡ Ok None → ◌≡◌ {A = Turn} (record { step = t; at = k }) (turn_of pairs s k)
  turned-done f = turned k (sym (ap (λ (x : Step). next_place x k) f))

  pub turned-refused : (x : Refusal) → t ≡ Err x → ◌≡◌ {A = Turn} (record { step = t; at = k }) (turn_of pairs s k)
  turned-refused x f = turned k (sym (ap (λ (x : Step). next_place x k) f))

-- what a turn says: the answer in numbers, and the place by it
pub said : (pairs s : List ℕ) (k : ℕ) (t : Turn) → t ≡ turn_of pairs s k → step_answer t.step ≡ step_of pairs s k
unfolding step_of
said pairs s k t e = ap (λ (x : Turn). step_answer x.step) e

pub placed : (pairs s : List ℕ) (k : ℕ) (t : Turn) → t ≡ turn_of pairs s k → t.at ≡ next_place t.step k
placed pairs s k t e = ap (λ (x : Turn). x.at) e ∙ sym (ap (λ (x : Turn). next_place x.step k) e)
