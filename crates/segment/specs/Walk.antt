-- docs/SERVICES.md, "The walk": each step is lent the table, refuses as check does, and otherwise gives every field of the record at its
-- place and moves on by one; a refused step stays, and past the last record it says done and stays.
--   Step          a record, or that they are done, or a refusal
--   stepped       what a step at a place answers
--   next_place     where the walk then is
--   step_of        the same in numbers
-- Assumes nothing: these are definitions.
use Rattle.std.specs.Prelude.{ℕ, suc, cond, List, [], ◌∷◌, ltb, Option, None, Some, Result, Ok, Err}
use Rattle.answer.specs.declared.Refusal.{Refusal}
use Rattle.answer.specs.Rules.{◌then◌}
use Rattle.answer.specs.Answers.{Answer, answered, refused}
use Rattle.segment.specs.declared.record.Record.{Record}
use Rattle.segment.specs.Format.{v3, header_of, record_count, record_no}
use Rattle.segment.specs.Check.{checked}

abbrev pub Step : Type 0
Step = Result (Option Record) Refusal

unfoldable pub stepped : List ℕ → List ℕ → ℕ → Step
stepped pairs s k =
    checked pairs s
    then Ok (cond (ltb k (record_count (header_of s))) (Some (record_no v3 s (header_of s) k)) None)

abbrev pub next_place : Step → ℕ → ℕ
next_place (Ok (Some r)) k = suc k
next_place (Ok None) k = k
next_place (Err r) k = k

-- the fields of a record, in the order of the file
abbrev pub record_values : Record → List ℕ
record_values r =
    r.hash_id ∷ r.digest_length ∷ r.reserved ∷ r.digest_offset.0 ∷ r.extents_offset.0 ∷ r.extent_count
    ∷ r.total_length ∷ r.domain ∷ r.visibility ∷ r.imported ∷ r.reserved_last ∷ r.source ∷ r.flags ∷ []

abbrev pub step_answer : Step → Answer
step_answer (Ok (Some r)) = answered (record_values r)
step_answer (Ok None) = answered []
step_answer (Err r) = refused r

unfoldable pub step_of : List ℕ → List ℕ → ℕ → Answer
step_of pairs s k = step_answer (stepped pairs s k)
