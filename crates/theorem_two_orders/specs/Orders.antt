-- Two segments that hold case L's records, in two orders, and what tidy makes of both.
--   table, heading_l   the table 1 → 32, 7 → 4, and the numbers that both segments have
--   turned_l           case L's records in the other order
--   Holds             a segment is accepted and means some records under these numbers
--   form_l             case L's tidy form
--   Alike, OneForm    what two calls of tidy answer and leave, one for each segment
-- Assumes nothing: these are definitions.
use Rattle.std.specs.Prelude.{ℕ, ◌≤◌, ◌≡◌, List, [], ◌∷◌, ◌++◌, length, take, drop, Ok}
use Rattle.numbers.specs.Numbers.{Bytes}
use Rattle.segment.specs.declared.header.Heading.{Heading}
use Rattle.segment.specs.Format.{v3}
use Rattle.segment.specs.Check.{check_of}
use Rattle.segment.specs.Meaning.{Row, meaning_of}
use Rattle.segment.specs.Tidy.{outcome, tidy_of}
use Rattle.theorem_demands.specs.Answered.{accepted}
use Rattle.theorem_cases.specs.PCases.{case_l, tidy_of_rows}
use Rattle.theorem_two_orders.specs.declared.Answers.{Answers}

abbrev pub table : List ℕ
table = 1 ∷ 32 ∷ 7 ∷ 4 ∷ []

abbrev pub heading_l : Heading
heading_l = record {
  shard = 1;
  snapshot_min = 2;
  snapshot_max = 8;
  domain = 5;
  seal_snapshot = 8;
  seal_time = 1000;
}

abbrev pub turned_l : List Row
turned_l = drop 1 case_l ++ take 1 case_l

pub record Holds (s : List ℕ) (rows : List Row) : Type 0 where
  pub bytes : Bytes s
  pub accepts : check_of table s ≡ accepted
  pub means : meaning_of v3 s ≡ record { heading = heading_l; bloom = []; records = rows }

unfoldable pub form_l : List ℕ
form_l = tidy_of_rows heading_l case_l

-- both answers are the length, and the two results are the same bytes
pub record Alike (x y : List ℕ) (r : Answers) : Type 0 where
  pub first : r.first ≡ Ok 256
  pub second : r.second ≡ Ok 256
  pub same : take 256 x ≡ take 256 y

-- each call answers and leaves what tidy does of case L's tidy form itself; and where both outputs have room for it, the first 256 bytes are the same
pub record OneForm (x x' y y' : List ℕ) (r : Answers) : Type 0 where
  pub first : outcome r.first x' ≡ tidy_of table form_l x
  pub second : outcome r.second y' ≡ tidy_of table form_l y
  pub alike : 256 ≤ length x → 256 ≤ length y → Alike x' y' r
