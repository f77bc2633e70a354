-- docs/SERVICES.md, "The three demands", the first, of any answer: it is answered, or refused by a number of the table and its place; and what is refused leaves
-- what it was lent to write to.
--   PlaceRule     which place each number has: in a segment (in_segment), and in what write is lent (in_request)
--   PlacedBy      a number of the table, and its place
--   Leaves        and an output, which a refused call leaves
--   Stays         and a walk, which a refused step leaves where it is
--   said_in        the number and the place in what an entry point for C returns
--   LeavesAt      and a slice, which a refused call of one leaves
-- Assumes nothing: these are definitions.
use Rattle.std.specs.Prelude.{ℕ, ◌/◌, ◌%◌, ◌<◌, ◌≡◌, Bool, true, false, cond, ◌&&◌, ◌||◌, List, [], leb, eqb}
use Rattle.answer.specs.Answers.{in_table, Answer, answered}
use Rattle.segment.specs.Format.{v3, header_of, record_count, record_at}
use Rattle.segment.specs.Walk.{next_place, step_answer, Step}
use Rattle.segment.specs.Tidy.{Outcome}
use Rattle.c_answer.specs.Boundary.{Left}
use Rattle.theorem_demands.specs.Answered.{refused_by}

-- answered, or refused by a number of the table
abbrev pub Numbered : Answer → Type 0
Numbered a = (eqb a.number 0 || in_table a.number) ≡ true

-- ---- which place a number has

-- which numbers are of an item, a record or an entry; which places an item has; and the one place of every other number
pub record PlaceRule : Type 1 where
  pub of_item : ℕ → Bool
  pub Item : ℕ → Type 0
  pub elsewhere : ℕ → ℕ

-- the refusals of one record: 7 to 10 and 12
abbrev pub of_record : ℕ → Bool
of_record number = (leb 7 number && leb number 10) || eqb number 12

-- the byte of the header at which the fields of 51 to 55 begin; otherwise 0
abbrev pub fields_at : ℕ → ℕ
fields_at number =
    cond (eqb number 51) 48
    (cond (eqb number 52) 32 (cond (eqb number 53) 64 (cond (eqb number 54) 80 (cond (eqb number 55) 88 0))))

-- a record of the segment begins at a byte
pub record RecordBegins (s : List ℕ) (byte : ℕ) : Type 0 where
  pub number : ℕ
  pub within : number < record_count (header_of s)
  pub here : byte ≡ record_at v3 (header_of s) number

-- in a segment: the byte at which the record begins, the byte of the fields, or 0
abbrev pub in_segment : List ℕ → PlaceRule
in_segment s = record { of_item = of_record; Item = RecordBegins s; elsewhere = fields_at }

-- in what write is lent, with so many entries: the entry's number for those and 15, otherwise 0
abbrev pub in_request : ℕ → PlaceRule
in_request n = record { of_item = λ number. of_record number || eqb number 15; Item = λ place. place < n; elsewhere = λ number. 0 }

-- ---- a call that is answered, or refused so

pub record PlacedBy (P : PlaceRule) (a : Answer) : Type 0 where
  pub numbered : Numbered a
  pub of-item : P.of_item a.number ≡ true → P.Item a.place
  pub otherwise : P.of_item a.number ≡ false → a.place ≡ P.elsewhere a.number

abbrev pub IsRefused : Answer → Type 0
IsRefused a = ¬ (a.number ≡ 0)

-- and with an output: one that is refused leaves it
pub record Leaves (P : PlaceRule) (o : Outcome) (out : List ℕ) : Type 0 where
  pub placed : PlacedBy P o.answer
  pub kept : IsRefused o.answer → o.output ≡ out

-- a step of the walk at a place: one that is refused stays there
pub record Stays (P : PlaceRule) (t : Step) (at : ℕ) : Type 0 where
  pub placed : PlacedBy P (step_answer t)
  pub kept : IsRefused (step_answer t) → next_place t at ≡ at

-- ---- at the C boundary

-- the number stands in the lowest byte
abbrev pub number_said : ℕ → ℕ
number_said bits = bits % 256

-- and, where that is not 0, the place from the third byte on
abbrev pub place_said : ℕ → ℕ
place_said bits = bits / 65536

abbrev pub said_in : ℕ → Answer
said_in bits = cond (eqb (number_said bits) 0) (answered []) (refused_by (number_said bits) (place_said bits))

-- what a call returns, and every byte of the slice after it: one that is refused leaves the slice
abbrev pub LeavesAt : PlaceRule → Left → List ℕ → Type 0
LeavesAt P l out = Leaves P (record { answer = said_in l.bits; output = l.output }) out
