-- What write and tidy answer once their verdict and their result are known: 16, then 13, and otherwise the result's length. Of any verdict and result.
-- Assumes nothing.
use Prim.Native.Nat.{ℕ, ◌≤◌}
use mathlib.Core.Path.{◌≡◌, refl, sym, ap, ◌∙◌}
use mathlib.Core.Bool.{Bool, true, false}
use mathlib.Core.Logic.Iff
use mathlib.Core.Logic.{◌↔◌, ◌⊎◌, ⊎_elim, ⊎_map}
use mathlib.Core.List.{List, ◌++◌}
use borrow.Author.Tests.{leb-true, leb-false, le-leb, lt-leb}
use lib.Dec.{leb}
use lib.ListN.{length, take, drop}
use lib.Seq.{take_at}
use Rattle.std.specs.Prelude.{Err, Ok}
use Rattle.answer.specs.declared.Refusal.{Refusal}
use Rattle.answer.specs.declared.Rule.TheVariants.{Room, Large}
use Rattle.answer.specs.Answers.{refusal, refused, written_answer, Written}
use Rattle.answer.specs.Rules.{must, ◌then◌, Verdict, accepted}
use Rattle.answer.proofs.Order.{must-accepted, rows, then-refused}
use Rattle.answer.proofs.Settled.{written-settled}
use Rattle.segment.specs.Format.{file_limit}
use Rattle.segment.specs.Tidy.{room_verdict, output_after, Outcome, outcome, settled}
use Rattle.theorem_demands.specs.Tidying.{Wrote, SizeGiven, by-limit, by-room}
use Rattle.theorem_demands.proofs.InNumbers.{in-numbers}

-- a value behind a verdict: it is answered where the verdict accepts, and refused as the verdict refuses
pub then-answers : {A : Type 0} (v : Verdict) (x y : A) → (v then Ok x) ≡ Ok y ↔ (v ≡ accepted) × (x ≡ y)
then-answers (Ok _) x y = (λ e. (refl, cc), λ e. ap Ok e.1)
then-answers (Err r) x y = (λ e. (cc, cc), λ e. cc)

pub then-refuses : {A : Type 0} (v : Verdict) (x : A) (r : Refusal) → (v then Ok x) ≡ Err r ↔ v ≡ Err r
then-refuses (Ok _) x r = (λ e. cc, λ e. cc)
then-refuses (Err q) x r = (λ e. cc, λ e. cc)

must-refused : (b : Bool) (q r : Refusal) → must b q ≡ Err r ↔ (b ≡ false) × (q ≡ r)
must-refused true q r = (λ e. (cc, cc), λ e. cc)
must-refused false q r = (λ e. (refl, cc), λ e. ap Err e.1)

room-refused : (n room : ℕ) (r : Refusal) → room_verdict n room ≡ Err r ↔ SizeGiven n room r
unfolding room_verdict
room-refused n room r = (
  λ e. ⊎_elim
      (λ large. let q = (must-refused (leb n file_limit) (refusal Large 0) r).0 large in rw (← q.1) (by-limit (leb-false n file_limit q.0)))
      (λ both. let q = (must-refused (leb n room) (refusal Room 0) r).0 both.1 in
      rw (← q.1) (by-room (leb-true n file_limit ((must-accepted (leb n file_limit) (refusal Large 0)).0 both.0)) (leb-false n room q.0)))
      ((then-refused (must (leb n file_limit) (refusal Large 0)) (must (leb n room) (refusal Room 0)) r).0 e),
  given r,
)
  where
    given : (q : Refusal) → SizeGiven n room q → (must (leb n file_limit) (refusal Large 0) then must (leb n room) (refusal Room 0)) ≡ Err q
    given q (by-limit l) = rw (lt-leb n file_limit l)
    given q (by-room l h) = rw (le-leb n file_limit l, lt-leb n room h)

-- nothing before the result is refused, it is within the limit, and an output has room for it
abbrev pub Passes : Verdict → List ℕ → ℕ → Type 0
Passes v result room = (v ≡ accepted) × ((length result ≤ file_limit) × (length result ≤ room))

module _ (v : Verdict) (result : List ℕ) where
  pub settled-done : (room n : ℕ) → settled v result room ≡ Ok n ↔ Passes v result room × (length result ≡ n)
  unfolding settled room_verdict
  settled-done room n = simp (then-answers, rows) Iff.rfl

  -- the refusals of what comes before, then 16, 13
  pub settled-refused : {A : Type 0} {G : Refusal → Type 0} → v ≡ accepted ↔ A → ((r : Refusal) → v ≡ Err r ↔ G r) → (room : ℕ) (r : Refusal)
      → settled v result room ≡ Err r ↔ G r ⊎ (A × SizeGiven (length result) room r)
  unfolding settled
  settled-refused a g room r =
      let size = room-refused (length result) room r in
      simp (then-refuses, then-refused)
      (⊎_map (g r).0 (λ p. (a.0 p.0, size.0 p.1)), ⊎_map (g r).1 (λ p. (a.1 p.0, size.1 p.1)))

  -- what is answered and left
  module _ (out : List ℕ) where
    abbrev pub left : Outcome
    left = outcome (settled v result (length out)) (output_after (settled v result (length out)) result out)

    to-result : (r : List ℕ) → Wrote left out r → Passes v result (length out) × (r ≡ result)
    to-result r w =
        let done : settled v result (length out) ≡ Ok (length r) = written-settled (settled v result (length out)) (Ok (length r)) w.answer in
        let d = (settled-done (length out) (length r)).0 done in
        let both : r ++ drop (length r) out ≡ result ++ drop (length r) out = sym w.output ∙ rw done in
        (d.0, sym (take_at r _ (length r) refl) ∙ ap (take (length r)) both ∙ take_at result _ (length r) d.1)

    from-result : Passes v result (length out) → Wrote left out result
    from-result p = rw ((settled-done (length out) (length result)).1 (p, refl)) (record { answer = refl; output = refl })

    -- the result and nothing else, exactly when it passes
    pub wrote-iff : (r : List ℕ) → Wrote left out r ↔ Passes v result (length out) × (r ≡ result)
    wrote-iff r = (to-result r, λ d. rw d.1 (from-result d.0))

    pub refused-keeps : (r : Refusal) → settled v result (length out) ≡ Err r → left.output ≡ out
    refused-keeps r e = rw e

-- a refusal, in numbers
pub written-numbers : (w : Written) {G : Refusal → Type 0} → ((r : Refusal) → w ≡ Err r ↔ G r) → (r : Refusal) → written_answer w ≡ refused r ↔ G r
written-numbers = in-numbers written_answer Err written-settled (λ r. refl)

-- two answers that one promise allows are equal, and so is what they leave
pub one-outcome : (o : Outcome) (v w : Written) (x y : List ℕ) → outcome v x ≡ o → outcome w y ≡ o → (v ≡ w) × (x ≡ y)
one-outcome o v w x y p q =
    let same : outcome v x ≡ outcome w y = p ∙ sym q in
    (written-settled v w (ap (λ (u : Outcome). u.answer) same), ap (λ (u : Outcome). u.output) same)
