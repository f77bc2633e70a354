-- docs/SERVICES.md, "Refusals": the number and the place of each, and what each service's answer says in numbers.
--   rule_number             the number of each rule
--   in_table                whether a number is one of them
--   refusal                a rule that is broken at a place
--   number_of, place_of      of a refusal
--   Answer                 what a call gives back: 0 or the refusal's number, its place, and the values of an answer
--   Source                 where a record came from
--   Written                what write and tidy answer: the result's length, or a refusal
--   check_answer, found_answer, written_answer   of each case of what check, look up, and write and tidy answer
-- Assumes nothing.
use Rattle.std.specs.Prelude.{ℕ, Bool, ◌&&◌, ◌||◌, List, [], ◌∷◌, ◌++◌, leb, Option, None, Some, Result, Ok, Err}
use Rattle.answer.specs.Rules.{Verdict}
use Rattle.answer.specs.declared.Refusal.{Refusal}
use Rattle.answer.specs.declared.Rule.{Rule}
use Rattle.answer.specs.declared.Rule.TheVariants.{
  Size,
  Magic,
  Version,
  Header,
  LayoutBloom,
  LayoutRecords,
  LayoutDigests,
  LayoutExtents,
  LayoutLength,
  Checksum,
  Record,
  Digest,
  Extents,
  Total,
  Visibility,
  Duplicate,
  Room,
  Table,
  List as ListEnd,
  Large,
  Key,
}
use Rattle.answer.specs.declared.Found.{Found}
use Rattle.answer.specs.declared.Found.TheVariants.{Absent, Gone, Present}

abbrev pub rule_number : Rule → ℕ
rule_number Size = 1
rule_number Magic = 2
rule_number Version = 3
rule_number Header = 4
rule_number Checksum = 6
rule_number Record = 7
rule_number Digest = 8
rule_number Extents = 9
rule_number Total = 10
rule_number Visibility = 11
rule_number Duplicate = 12
rule_number Room = 13
rule_number Table = 14
rule_number ListEnd = 15
rule_number Large = 16
rule_number Key = 17
rule_number LayoutBloom = 51
rule_number LayoutRecords = 52
rule_number LayoutDigests = 53
rule_number LayoutExtents = 54
rule_number LayoutLength = 55

-- the numbers of the table. 5 is given no more: 51 to 55 stand for it
abbrev pub in_table : ℕ → Bool
in_table n = (leb 1 n && leb n 4) || ((leb 6 n && leb n 17) || (leb 51 n && leb n 55))

-- a rule that is broken at a place. Which place is said where the rule stands
abbrev pub refusal : Rule → ℕ → Refusal
refusal rule place = record { 0 = rule; 1 = place }

abbrev pub number_of : Refusal → ℕ
number_of r = rule_number r.0

abbrev pub place_of : Refusal → ℕ
place_of r = r.1

pub record Answer : Type 0 where
  pub number : ℕ
  pub place : ℕ
  pub values : List ℕ

-- the call is answered, with these values
abbrev pub answered : List ℕ → Answer
answered vs = record { number = 0; place = 0; values = vs }

abbrev pub refused : Refusal → Answer
refused r = record { number = number_of r; place = place_of r; values = [] }

abbrev pub check_answer : Verdict → Answer
check_answer (Ok _) = answered []
check_answer (Err r) = refused r

-- the domain that a record was imported from, if it was
abbrev pub Source : Type 0
Source = Option ℕ

abbrev pub source_values : Source → List ℕ
source_values None = 0 ∷ 0 ∷ []
source_values (Some d) = 1 ∷ d ∷ []

-- absent; gone, with visibility, domain and source; or present, with these, the total length, and where its extents lie
abbrev pub found_answer : Result Found Refusal → Answer
found_answer (Ok Absent) = answered []
found_answer (Ok (Gone visibility domain source)) = answered (visibility ∷ domain ∷ source_values source)
found_answer (Ok (Present visibility domain source total start count)) =
    answered (visibility ∷ domain ∷ source_values source ++ (total ∷ start.0 ∷ count ∷ []))
found_answer (Err r) = refused r

-- the result's length
abbrev pub Written : Type 0
Written = Result ℕ Refusal

abbrev pub written_answer : Written → Answer
written_answer (Ok n) = answered (n ∷ [])
written_answer (Err r) = refused r
