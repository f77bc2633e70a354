-- The C boundary: the one number that a call returns, and what it leaves in the slice that it is lent to write to. A refused call changes
-- nothing.
--   answer_bits     number + 2^8 × which + 2^16 × value
--   bits_of         of an answer: its value where it is answered, its place where it is refused
--   Left           what a call returns, and every byte of the slice after it
--   number_bytes    numbers, eight bytes each
--   reply_left, step_left, sealed_as   what look up, a step, and write and tidy return and leave
-- Assumes nothing: these are definitions.
use Rattle.std.specs.Prelude.{ℕ, ◌+◌, ◌*◌, ◌<◌, ◌≡◌, cond, List, [], ◌∷◌, ◌++◌, leb, eqb, length, get_or, take, replicate, Err, None, Ok, Some}
use Rattle.numbers.specs.Numbers.{bytes_of, put}
use Rattle.answer.specs.declared.Rule.TheVariants.{Room}
use Rattle.answer.specs.declared.Refusal.{Refusal}
use Rattle.answer.specs.declared.Found.TheVariants.{Absent, Gone, Present}
use Rattle.answer.specs.Answers.{refusal, number_of, place_of, Answer, source_values, found_answer, Source, Written}
use Rattle.segment.specs.declared.header.Heading.{Heading}
use Rattle.segment.specs.LookUp.{LookedUp}
use Rattle.segment.specs.Walk.{record_values, Step}
use Rattle.segment.specs.Tidy.{Outcome}
use Rattle.c_answer.specs.declared.Reply.{Reply}

-- ---- one number

-- a value has 48 bits
abbrev pub value_limit : ℕ
value_limit = 281474976710656

unfoldable pub answer_bits : ℕ → ℕ → ℕ → ℕ
answer_bits number which value = number + 256 * which + 65536 * value

unfoldable pub bits_of : Answer → ℕ → ℕ
bits_of a value = answer_bits a.number 0 (cond (eqb a.number 0) value a.place)

abbrev pub refused_bits : Refusal → ℕ
refused_bits r = answer_bits (number_of r) 0 (place_of r)

-- the first of an answer's values: the length of what write and tidy made
abbrev pub first_value : List ℕ → ℕ
first_value [] = 0
first_value (n ∷ ns) = n

-- an answer whose value is a length
abbrev pub length_bits : Answer → ℕ
length_bits a = bits_of a (first_value a.values)

-- what write and tidy answer fits
abbrev pub Small : Written → Type 0
Small (Ok n) = n < value_limit
Small (Err r) = place_of r < value_limit

-- ---- and a slice

pub record Left : Type 0 where
  pub bits : ℕ
  pub output : List ℕ

abbrev pub left : ℕ → List ℕ → Left
left bits output = record { bits = bits; output = output }

-- numbers, eight bytes each, little-endian
unfoldable pub number_bytes : List ℕ → List ℕ
number_bytes [] = []
number_bytes (n ∷ ns) = bytes_of 8 n ++ number_bytes ns

-- an answer with some value, and numbers for the front of a slice; 13, after every other refusal, where it is too short
unfoldable pub given_to : ℕ → List ℕ → List ℕ → Left
given_to value numbers out =
    cond (leb (8 * length numbers) (length out)) (left (answer_bits 0 0 value) (put out 0 (number_bytes numbers))) (left (refused_bits (refusal Room 0)) out)

-- ---- look up

-- absent 1, gone 2, present 3; 0 is no answer
abbrev pub state_of : LookedUp → ℕ
state_of (Ok Absent) = 1
state_of (Ok (Gone visibility domain source)) = 2
state_of (Ok (Present visibility domain source total start count)) = 3
state_of (Err r) = 0

-- look up's answer by value: its number, its place, and eight numbers: the state, the answer's values, and zeros. So they are state,
-- visibility, domain, imported, source, total, where the extents begin in the segment, and how many they are; what does not apply is 0
unfoldable pub reply_of : LookedUp → Reply
reply_of f = record {
  number = (found_answer f).number;
  place = (found_answer f).place;
  values = take 8 (state_of f ∷ (found_answer f).values ++ replicate 7 0);
}

-- the reply of a record, number by number
unfoldable pub replied : ℕ → ℕ → ℕ → Source → ℕ → ℕ → ℕ → Reply
replied state visibility domain source total start count = record {
  number = 0;
  place = 0;
  values = state ∷ visibility ∷ domain ∷ source_values source ++ (total ∷ start ∷ count ∷ []);
}

-- a reply's eight numbers go to the front of the slice, and the first of them, the state, is the value
unfoldable pub reply_left : Reply → List ℕ → Left
reply_left a found = cond (eqb a.number 0) (given_to (get_or a.values 0 0) a.values found) (left (answer_bits a.number 0 a.place) found)

-- ---- a step of the walk: a record's fields are left, and the value is 1; or the records are done, and it is 2

unfoldable pub step_left : Step → List ℕ → Left
step_left (Ok (Some r)) fields = given_to 1 (record_values r) fields
step_left (Ok None) fields = left (answer_bits 0 0 2) fields
step_left (Err r) fields = left (refused_bits r) fields

-- ---- write and tidy

-- the header numbers, as they are lent
abbrev pub headed : ℕ → ℕ → ℕ → ℕ → ℕ → ℕ → Heading
headed shard snapshot_min snapshot_max domain seal_snapshot seal_time = record {
  shard = shard;
  snapshot_min = snapshot_min;
  snapshot_max = snapshot_max;
  domain = domain;
  seal_snapshot = seal_snapshot;
  seal_time = seal_time;
}

unfoldable pub sealed_as : Outcome → Left
sealed_as o = left (length_bits o.answer) o.output

-- a reply whose numbers fit where they are said: eight of them, and the state is the first
pub record Sayable (a : Reply) : Type 0 where
  pub long : length a.values ≡ 8
  pub number : a.number < 256
  pub place : a.place < value_limit
  pub state : get_or a.values 0 0 < value_limit
