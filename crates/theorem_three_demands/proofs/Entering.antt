-- Demand 1 at the C boundary: what an entry point returns has the number and the place of its service's answer, and what it is lent to write to is left where
-- it refuses. Of any answer, reply, step and outcome.
-- Assumes nothing.
use Prim.Native.Nat.{ℕ, ◌*◌, ◌<◌}
use mathlib.Core.Path.{◌≡◌, refl, ap}
use mathlib.Core.Bool.{false}
use mathlib.Core.Logic.{⊎_elim}
use mathlib.Core.List.{List, []}
use native.Mathlib.Omega.{arith}
use borrow.Author.Tests.{eqb-true}
use lib.Dec.{eqb, leb}
use lib.ListN.{length, get_or}
use Rattle.std.specs.Prelude.{Err, None, Ok, Some}
use Rattle.answer.specs.Answers.{in_table, Answer, answered}
use Rattle.answer.proofs.Settled.{table-small}
use Rattle.lists.proofs.Tests.{by-test, or-either}
use Rattle.segment.specs.Walk.{record_values, step_answer, Step}
use Rattle.segment.specs.Tidy.{Outcome}
use Rattle.c_answer.specs.declared.Reply.{Reply}
use Rattle.c_answer.specs.Boundary.{answer_bits, bits_of, left, given_to, reply_left, step_left, sealed_as}
use Rattle.theorem_demands.specs.Answered.{refused_by}
use Rattle.theorem_three_demands.specs.Answering.{Numbered, PlaceRule, PlacedBy, Leaves, number_said, place_said, said_in, LeavesAt}
use Rattle.theorem_three_demands.proofs.Answering.{Common}

-- ---- one number

-- an answer's number fits its byte
number_fits : (a : Answer) → Numbered a → a.number < 256
number_fits a n =
    ⊎_elim (λ e. let z = eqb-true a.number 0 e in omega arith) (λ e. (table-small a.number e).1) (or-either (eqb a.number 0) (in_table a.number) n)

module _ (number place : ℕ) (l : number < 256) where
  lowest : number_said (answer_bits number 0 place) ≡ number
  unfolding answer_bits
  lowest = omega arith

  third : place_said (answer_bits number 0 place) ≡ place
  unfolding answer_bits
  third = omega arith

  refusal-said : eqb number 0 ≡ false → said_in (answer_bits number 0 place) ≡ refused_by number place
  refusal-said e = rw (lowest, third, e)

value-said : (value : ℕ) → said_in (answer_bits 0 0 value) ≡ answered []
value-said value = rw (lowest 0 value (omega arith))

module _ {P : PlaceRule} (o : Common P) where
  value-placed : (value : ℕ) → PlacedBy P (said_in (answer_bits 0 0 value))
  value-placed value = rw (value-said value) (o.answers [])

  refusal-placed : (number place : ℕ) → PlacedBy P (refused_by number place) → PlacedBy P (said_in (answer_bits number 0 place))
  refusal-placed number place p =
      by-test (eqb number 0)
      (λ e. let same : number ≡ 0 = eqb-true number 0 e in rw same (value-placed place))
      (λ e. rw (refusal-said number place (number_fits (refused_by number place) p.numbered) e) p)

  pub bits-placed : (a : Answer) (value : ℕ) → PlacedBy P a → PlacedBy P (said_in (bits_of a value))
  unfolding bits_of
  bits-placed a value p =
      let q : PlacedBy P (refused_by a.number a.place) = record { numbered = p.numbered; of-item = p.of-item; otherwise = p.otherwise } in
      by-test (eqb a.number 0)
      (λ e. let same : a.number ≡ 0 = eqb-true a.number 0 e in rw (e, same) (value-placed value))
      (λ e. rw e (refusal-placed a.number a.place q))

  -- ---- and a slice

  value-leaves : (value : ℕ) (after out : List ℕ) → LeavesAt P (left (answer_bits 0 0 value) after) out
  value-leaves value after out = record { placed = value-placed value; kept = λ f. absurd (f (ap (λ (a : Answer). a.number) (value-said value))) }

  refusal-leaves : (number place : ℕ) (out : List ℕ) → PlacedBy P (refused_by number place) → LeavesAt P (left (answer_bits number 0 place) out) out
  refusal-leaves number place out p = record { placed = refusal-placed number place p; kept = λ f. refl }

  given-leaves : (value : ℕ) (numbers out : List ℕ) → LeavesAt P (given_to value numbers out) out
  unfolding given_to
  given-leaves value numbers out =
      by-test (leb (8 * length numbers) (length out)) (λ e. rw e (value-leaves value _ out)) (λ e. rw e (refusal-leaves 13 0 out o.room))

  pub reply-leaves : (a : Reply) (found : List ℕ) → PlacedBy P (refused_by a.number a.place) → LeavesAt P (reply_left a found) found
  unfolding reply_left
  reply-leaves a found p =
      by-test (eqb a.number 0)
      (λ e. rw e (given-leaves (get_or a.values 0 0) a.values found))
      (λ e. rw e (refusal-leaves a.number a.place found p))

  pub step-leaves : (t : Step) (fields : List ℕ) → PlacedBy P (step_answer t) → LeavesAt P (step_left t fields) fields
  unfolding step_left
  step-leaves (Ok (Some r)) fields p = given-leaves 1 (record_values r) fields
  step-leaves (Ok None) fields p = value-leaves 2 fields fields
  step-leaves (Err r) fields p = refusal-leaves _ _ fields p

  pub sealed-leaves : (x : Outcome) (out : List ℕ) → Leaves P x out → LeavesAt P (sealed_as x) out
  unfolding sealed_as bits_of
  sealed-leaves x out l = record {
    placed = bits-placed x.answer _ l.placed;
    kept = λ f. l.kept (λ e. f (rw e (ap (λ (a : Answer). a.number) (value-said _))));
  }
