-- What the demands suppose, of the tidy form of a meaning and the request for it; and case L, of which all of it holds.
-- Assumes nothing: these are definitions.
use Rattle.std.specs.Prelude.{ℕ, ◌≤◌, List, [], ◌∷◌, length}
use Rattle.segment.specs.Format.{v3}
use Rattle.segment.specs.Meaning.{Meaning, meaning_of, SameMeaning}
use Rattle.segment.specs.Tidy.{tidy_form}
use Rattle.segment.specs.Write.{requested, write_of}
use Rattle.theorem_demands.specs.Tidying.{Wrote}
use Rattle.theorem_demands.specs.Writing.{Lent}
use Rattle.theorem_demands.specs.Asking.{request_for}
use Rattle.theorem_cases.specs.PCases.{case_l}
use Rattle.theorem_three_demands.specs.Demands.{TidySegment, CanTidy}

pub record Supposed (pairs : List ℕ) (m : Meaning) : Type 0 where
  pub tidy : TidySegment pairs (tidy_form v3 m)
  pub can : CanTidy pairs (tidy_form v3 m)
  pub lent : Lent (request_for m)
  pub same : SameMeaning (requested (request_for m)) (meaning_of v3 (tidy_form v3 m))
  pub written : (out : List ℕ) → length (tidy_form v3 m) ≤ length out → Wrote (write_of pairs (request_for m) out) out (tidy_form v3 m)

-- a table that allows case L's keys, and case L of domain 5
abbrev pub table_l : List ℕ
table_l = 7 ∷ 4 ∷ []

abbrev pub meaning_l : Meaning
meaning_l = record {
  heading = record { shard = 0; snapshot_min = 0; snapshot_max = 0; domain = 5; seal_snapshot = 0; seal_time = 0 };
  bloom = [];
  records = case_l;
}
