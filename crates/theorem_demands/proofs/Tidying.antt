-- Demand 3 holds of the definitions: what tidy writes is accepted, means the same and is its own tidy form, and it is the same for two segments exactly
-- when they mean the same. And each refusal of tidy is given exactly when; then every byte of the output stays.
-- Assumes nothing.
use Prim.Native.Nat.{ℕ, ◌≤◌}
use mathlib.Core.Path.{◌≡◌, refl, sym, ◌∙◌}
use mathlib.Core.Bool.{true}
use mathlib.Core.Logic.Iff
use mathlib.Core.Logic.{◌↔◌, inl, ⊎_map}
use mathlib.Core.List.{List}
use native.Mathlib.Omega.{arith}
use lib.ListN.{length}
use Rattle.std.specs.Prelude.{Err, Ok}
use Rattle.numbers.specs.Numbers.{Bytes}
use Rattle.answer.specs.declared.Refusal.{Refusal}
use Rattle.answer.specs.Answers.{refused, written_answer, Written}
use Rattle.answer.proofs.Order.{rows, then-refused}
use Rattle.answer.proofs.Settled.{written-settled}
use Rattle.segment.specs.Format.{v3, file_limit}
use Rattle.table.specs.Table.{good_table}
use Rattle.segment.specs.Check.{checked, check_of}
use Rattle.segment.specs.Meaning.{Meaning, meaning_of, SameMeaning}
use Rattle.segment.specs.Tidy.{tidy_form, limit_verdict, room_verdict, settled, outcome, tidied, tidy_of, tidy_sized, tidy_length_of}
use Rattle.form_laws.specs.Form.{Tidies}
use Rattle.segment.proofs.Shapes.{v3-shaped}
use Rattle.form_laws.proofs.SortedForm.{tidy-bytes}
use Rattle.form_laws.proofs.Canonical.{tidy-meets, tidy-same, tidy-ascends, tidy-again, tidy-canonical}
use Rattle.form_laws.proofs.Meanings.{meaning-writable}
use Rattle.theorem_demands.specs.Answered.{accepted}
use Rattle.theorem_demands.specs.Tidying.{Wrote, tidy_bytes, Tidiable, TidyGiven, Keeps, SameForm}
use Rattle.theorem_demands.proofs.Rulebook.{answer-is, accepts-iff}
use Rattle.theorem_demands.proofs.Refusals.{refused-iff}
use Rattle.theorem_demands.proofs.Settling.{then-answers, then-refuses, settled-done, settled-refused, wrote-iff, refused-keeps, written-numbers, one-outcome}

-- ---- when tidy writes, and what

module _ (pairs s : List ℕ) where
  -- the tidy form and nothing else, exactly when it does not refuse
  pub tidied-iff : (out r : List ℕ) → Wrote (tidy_of pairs s out) out r ↔ Tidiable pairs s (length out) × (r ≡ tidy_bytes s)
  unfolding tidy_of tidied
  tidied-iff out r =
      simp (wrote-iff (checked pairs s) (tidy_bytes s) out r, ← answer-is pairs s (Ok _)) (
        λ d. (record { accepts = d.0.0; small = d.0.1.0; fits = d.0.1.1 }, d.1),
        λ d. ((d.0.accepts, (d.0.small, d.0.fits)), d.1),
      )

  -- ---- when it refuses, and what stays

  pub tidy-refused-iff : (room : ℕ) (r : Refusal) → tidied pairs s room ≡ Err r ↔ TidyGiven pairs s room r
  unfolding tidied
  tidy-refused-iff room r = settled-refused (checked pairs s) (tidy_bytes s) (Iff.symm (answer-is pairs s (Ok _))) (refused-iff pairs s) room r

  -- in numbers
  pub tidy-refused-numbers : (out : List ℕ) (r : Refusal) → (tidy_of pairs s out).answer ≡ refused r ↔ TidyGiven pairs s (length out) r
  unfolding tidy_of
  tidy-refused-numbers out = written-numbers (tidied pairs s (length out)) (tidy-refused-iff (length out))

  pub tidy-refused-keeps : (out : List ℕ) (r : Refusal) → tidied pairs s (length out) ≡ Err r → (tidy_of pairs s out).output ≡ out
  unfolding tidy_of tidied
  tidy-refused-keeps out r e = refused-keeps (checked pairs s) (tidy_bytes s) out r e

  -- two answers that the promise allows are equal, and so is what they leave
  pub one-tidied : (out : List ℕ) (v w : Written) (x y : List ℕ) → outcome v x ≡ tidy_of pairs s out → outcome w y ≡ tidy_of pairs s out
      → (v ≡ w) × (x ≡ y)
  one-tidied out = one-outcome (tidy_of pairs s out)

-- ---- its length, with nothing written

module _ (pairs s : List ℕ) where
  -- tidy makes just so many bytes wherever there is room for them
  pub length-tells : (n room : ℕ) → tidy_sized pairs s ≡ Ok n → n ≤ room → tidied pairs s room ≡ Ok n
  unfolding tidy_sized tidied
  length-tells n room e l =
      let t = simp (then-answers, rows) at e in
      (settled-done (checked pairs s) (tidy_bytes s) room n).1 ((t.0.0, (t.0.1, omega arith)), t.1)

  -- and refuses so wherever the length is refused
  pub length-refused : (room : ℕ) (r : Refusal) → tidy_sized pairs s ≡ Err r → tidied pairs s room ≡ Err r
  unfolding tidy_sized tidied settled room_verdict
  length-refused room r e =
      let t = simp (then-refuses, then-refused) at e in
      simp (then-refuses, then-refused) (⊎_map (λ q. q) (λ q. (q.0, (then-refused (limit_verdict (length (tidy_bytes s))) _ r).1 (inl q.1))) t)

  pub one-tidy-length : (v w : Written) → written_answer v ≡ tidy_length_of pairs s → written_answer w ≡ tidy_length_of pairs s → v ≡ w
  one-tidy-length v w e f = written-settled v w (e ∙ sym f)

-- ---- bytes that were written for a meaning

-- r is the tidy form of a meaning that can be written
pub record FormFor (pairs : List ℕ) (m : Meaning) (r : List ℕ) : Type 0 where
  pub tidies : Tidies v3 pairs m
  pub is : r ≡ tidy_form v3 m

pub form-keeps : (pairs : List ℕ) (m : Meaning) (r : List ℕ) → good_table pairs ≡ true → FormFor pairs m r → Keeps pairs m r
form-keeps pairs m r g f =
    let form = tidy_form v3 m in
    let can = f.tidies in
    let same : tidy_bytes form ≡ form = tidy-again v3 v3-shaped pairs m can in
    let accepts : check_of pairs form ≡ accepted = (accepts-iff pairs form).1 (g, tidy-meets v3 v3-shaped pairs m can) in
    rw f.is (
    record {
      bytes = tidy-bytes v3 m pairs can.contents;
      accepts = accepts;
      means = tidy-same v3 v3-shaped pairs m can;
      ascends = tidy-ascends v3 v3-shaped pairs m can;
      itself = same;
      again = λ out room. (tidied-iff pairs form out form).1 (record { accepts = accepts; small = rw same can.fits; fits = rw same room }, sym same);
    }
    )

pub forms-same-iff : (pairs others : List ℕ) (m n : Meaning) (r t : List ℕ) → FormFor pairs m r → FormFor others n t → r ≡ t ↔ SameMeaning m n
forms-same-iff pairs others m n r t f g = rw (f.is, g.is) (tidy-canonical v3 m n v3-shaped pairs others f.tidies g.tidies)

-- ---- demand 3

-- the meaning of an accepted segment can be written
pub accepted-form : (pairs s : List ℕ) → Bytes s → check_of pairs s ≡ accepted → length (tidy_bytes s) ≤ file_limit
    → FormFor pairs (meaning_of v3 s) (tidy_bytes s)
accepted-form pairs s b e l = record {
  tidies = record { contents = meaning-writable s b v3 pairs ((accepts-iff pairs s).0 e).1; fits = l };
  is = refl;
}

pub form-same-iff : (pairs a others b : List ℕ) → Bytes a → Bytes b → check_of pairs a ≡ accepted → check_of others b ≡ accepted
    → length (tidy_bytes a) ≤ file_limit → length (tidy_bytes b) ≤ file_limit → SameForm a b
form-same-iff pairs a others b p q e f l m =
    forms-same-iff pairs others (meaning_of v3 a) (meaning_of v3 b) (tidy_bytes a) (tidy_bytes b) (accepted-form pairs a p e l) (accepted-form others b q f m)

pub tidied-form : (pairs s out r : List ℕ) → Bytes s → Wrote (tidy_of pairs s out) out r → FormFor pairs (meaning_of v3 s) r
tidied-form pairs s out r b w =
    let d = (tidied-iff pairs s out r).0 w in
    rw d.1 (accepted-form pairs s b d.0.accepts d.0.small)

pub tidy-keeps : (pairs s out r : List ℕ) → Bytes s → Wrote (tidy_of pairs s out) out r → Keeps pairs (meaning_of v3 s) r
tidy-keeps pairs s out r b w =
    let d = (tidied-iff pairs s out r).0 w in
    form-keeps pairs (meaning_of v3 s) r ((accepts-iff pairs s).0 d.0.accepts).0 (tidied-form pairs s out r b w)

pub tidy-same-iff : (pairs a x r others b y t : List ℕ) → Bytes a → Bytes b → Wrote (tidy_of pairs a x) x r → Wrote (tidy_of others b y) y t
    → r ≡ t ↔ SameMeaning (meaning_of v3 a) (meaning_of v3 b)
tidy-same-iff pairs a x r others b y t p q v w =
    forms-same-iff pairs others (meaning_of v3 a) (meaning_of v3 b) r t (tidied-form pairs a x r p v) (tidied-form others b y t q w)
