-- Look up by the meaning: of an accepted segment it says absent exactly when no record of the meaning has the key; of a record that has it, it says gone or
-- present, with its visibility, the segment's domain, its source and, if it is present, its total length and its extents. So two segments that mean the same
-- answer every look up alike, apart from where the extents lie.
--   Telling       an answer of look up, apart from where the extents lie
--   telling_of     that of an answer about a segment
--   row_telling    what a record of a meaning comes to, in a domain
--   LookMeans     look up answers so
-- Assumes nothing: these are definitions.
use Rattle.std.specs.Prelude.{ℕ, ◌≡◌, ◌↔◌, length, Ok, Err}
use mathlib.Core.List.{List, [], Mem}
use Rattle.answer.specs.declared.Found.{Found}
use Rattle.answer.specs.declared.Found.TheVariants.{Absent, Gone, Present}
use Rattle.answer.specs.Answers.{Answer, found_answer, Source}
use Rattle.segment.specs.declared.extent.Extent.{Extent}
use Rattle.segment.specs.Format.{v3, in_file, extents_at}
use Rattle.segment.specs.Keys.{key_of, Key}
use Rattle.segment.specs.Check.{sum_lengths}
use Rattle.segment.specs.Meaning.{State, gone, live, Row, row_key, row_extents, meaning_of}
use Rattle.segment.specs.LookUp.{LookedUp, looked_up, look_up_of, extents_part}
use Rattle.theorem_demands.specs.Answered.{absent}

-- the answer in numbers, with 0 for where the extents lie; and the extents themselves
pub record Telling : Type 0 where
  pub answer : Answer
  pub extents : List Extent

abbrev pub anywhere : LookedUp → LookedUp
anywhere (Ok Absent) = Ok Absent
anywhere (Ok (Gone visibility domain source)) = Ok (Gone visibility domain source)
anywhere (Ok (Present visibility domain source total start count)) = Ok (Present visibility domain source total (in_file 0) count)
anywhere (Err r) = Err r

-- the extents, read out of the part of the segment that is handed back
abbrev pub extents_told : LookedUp → List ℕ → List Extent
extents_told (Ok Absent) bytes = []
extents_told (Ok (Gone visibility domain source)) bytes = []
extents_told (Ok (Present visibility domain source total start count)) bytes = extents_at bytes 0 count
extents_told (Err r) bytes = []

abbrev pub telling_of : LookedUp → List ℕ → Telling
telling_of f s = record { answer = found_answer (anywhere f); extents = extents_told f (extents_part f s) }

abbrev pub state_found : (visibility domain : ℕ) → Source → State → Found
state_found visibility domain source gone = Gone visibility domain source
state_found visibility domain source (live es) = Present visibility domain source (sum_lengths es) (in_file 0) (length es)

abbrev pub row_telling : ℕ → Row → Telling
row_telling domain r = record { answer = found_answer (Ok (state_found r.visibility domain r.source r.state)); extents = row_extents r }

pub record LookMeans (pairs s : List ℕ) (key : Key) : Type 0 where
  pub absent-iff : look_up_of pairs s key ≡ absent
      ↔ ((r : Row) → Mem r (meaning_of v3 s).records → ¬ (row_key r ≡ key_of key))
  pub that-row : (r : Row) → Mem r (meaning_of v3 s).records → row_key r ≡ key_of key
      → telling_of (looked_up pairs s key) s ≡ row_telling (meaning_of v3 s).heading.domain r
