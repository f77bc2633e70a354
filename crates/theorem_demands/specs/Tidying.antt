-- docs/SERVICES.md, "The three demands", 3:
-- what tidy writes is accepted, means the same as what it was lent, and is not changed by tidying it again; two segments are tidied
-- into the same bytes exactly when they mean the same. And each refusal of tidy: as check, then 16, 13.
--   Wrote       what a call that writes leaves when it is answered
--   tidy_bytes   the tidy form of a segment's meaning
--   Tidiable    tidy does not refuse
--   SizeGiven, TidyGiven   when it gives a refusal
--   Keeps       what holds of the bytes that were written for a meaning
-- Assumes nothing: these are definitions.
use Rattle.std.specs.Prelude.{ℕ, ◌≤◌, ◌<◌, ◌≡◌, ◌↔◌, ◌⊎◌, List, [], ◌∷◌, ◌++◌, length, drop}
use Rattle.numbers.specs.Numbers.{Bytes}
use Rattle.answer.specs.declared.Refusal.{Refusal}
use Rattle.answer.specs.declared.Rule.TheVariants.{Room, Large}
use Rattle.answer.specs.Answers.{refusal, answered}
use Rattle.segment.specs.Format.{v3, file_limit}
use Rattle.segment.specs.Check.{check_of}
use Rattle.segment.specs.Meaning.{Meaning, meaning_of, SameMeaning}
use Rattle.segment.specs.Tidy.{row_leq, tidy_form, Outcome, tidy_of}
use Rattle.lists.specs.Lists.{Ascending}
use Rattle.theorem_demands.specs.Answered.{accepted}
use Rattle.theorem_demands.specs.Refusals.{Given}

-- the answer is the length of what was written, it stands at the front of the output, and the bytes after it stay
pub record Wrote (o : Outcome) (out r : List ℕ) : Type 0 where
  pub answer : o.answer ≡ answered (length r ∷ [])
  pub output : o.output ≡ r ++ drop (length r) out

abbrev pub tidy_bytes : List ℕ → List ℕ
tidy_bytes s = tidy_form v3 (meaning_of v3 s)

-- check accepts, the result is within the limit, and the output has room for it
pub record Tidiable (pairs s : List ℕ) (room : ℕ) : Type 0 where
  pub accepts : check_of pairs s ≡ accepted
  pub small : length (tidy_bytes s) ≤ file_limit
  pub fits : length (tidy_bytes s) ≤ room

-- a result of some length, for an output of some room: 16, then 13
pub data SizeGiven (n room : ℕ) : Refusal → Type 0 where
  by-limit : file_limit < n → SizeGiven n room (refusal Large 0)
  by-room : n ≤ file_limit → room < n → SizeGiven n room (refusal Room 0)

-- as check, then those
abbrev pub TidyGiven : List ℕ → List ℕ → ℕ → Refusal → Type 0
TidyGiven pairs s room r = Given pairs s r ⊎ ((check_of pairs s ≡ accepted) × SizeGiven (length (tidy_bytes s)) room r)

-- of the bytes r that tidy wrote for the meaning of a segment, or write for what was asked for
pub record Keeps (pairs : List ℕ) (m : Meaning) (r : List ℕ) : Type 0 where
  pub bytes : Bytes r
  pub accepts : check_of pairs r ≡ accepted
  pub means : SameMeaning (meaning_of v3 r) m
  pub ascends : Ascending row_leq (meaning_of v3 r).records
  -- they are their own tidy form: tidied again, into any output that has room for them, no byte changes
  pub itself : tidy_bytes r ≡ r
  pub again : (out : List ℕ) → length r ≤ length out → Wrote (tidy_of pairs r out) out r

-- two segments have the same tidy form exactly when they mean the same
abbrev pub SameForm : List ℕ → List ℕ → Type 0
SameForm a b = tidy_bytes a ≡ tidy_bytes b ↔ SameMeaning (meaning_of v3 a) (meaning_of v3 b)
