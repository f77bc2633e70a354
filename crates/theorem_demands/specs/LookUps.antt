-- docs/SERVICES.md, "The three demands", 2 on look up:
-- of an accepted segment and a key that the table allows it says absent exactly when no record has the key, and
-- otherwise gives that record; no two records have it.
-- Assumes nothing: these are definitions.
use Rattle.std.specs.Prelude.{ℕ, ◌*◌, ◌<◌, ◌≡◌, true, false, ◌↔◌, List, take, drop, Ok}
use Rattle.answer.specs.declared.Refusal.{Refusal}
use Rattle.answer.specs.declared.Rule.TheVariants.{Table, Key as KeyWrong}
use Rattle.answer.specs.Answers.{refusal, found_answer}
use Rattle.segment.specs.Format.{v3, extent_size, header_of, record_count, record_no}
use Rattle.table.specs.Table.{good_table}
use Rattle.segment.specs.Keys.{Key, key_of, allows_key}
use Rattle.segment.specs.Check.{key_no}
use Rattle.segment.specs.LookUp.{record_found, looked_up, look_up_of, extents_part}
use Rattle.theorem_demands.specs.Answered.{absent}
use Rattle.theorem_demands.specs.Refusals.{Given}

-- record k of the segment has the key
pub record HasKey (s : List ℕ) (key : Key) (k : ℕ) : Type 0 where
  pub within : k < record_count (header_of s)
  pub same : key_no v3 s (header_of s) k ≡ key_of key

pub record Finds (pairs s : List ℕ) (key : Key) : Type 0 where
  -- absent exactly when no record has the key
  pub absent-iff : look_up_of pairs s key ≡ absent ↔ ((k : ℕ) → HasKey s key k → ⊥)
  -- otherwise that record's answer, field for field
  pub that-record : (k : ℕ) → HasKey s key k → look_up_of pairs s key ≡ found_answer (Ok (record_found (record_no v3 s (header_of s) k)))
  -- and, if it is not gone, the part that is handed back is its extents' bytes
  pub its-extents : (k : ℕ) → HasKey s key k → ((record_no v3 s (header_of s) k).flags ≡ 1 → ⊥)
      → extents_part (looked_up pairs s key) s
      ≡ take (extent_size * (record_no v3 s (header_of s) k).extent_count) (drop (record_no v3 s (header_of s) k).extents_offset.0 s)
  -- there is at most one
  pub only_one : (j k : ℕ) → HasKey s key j → HasKey s key k → j ≡ k

-- when look up gives a refusal: 14, then 17, then as check
pub data LookGiven (pairs s : List ℕ) (key : Key) : Refusal → Type 0 where
  by-table : good_table pairs ≡ false → LookGiven pairs s key (refusal Table 0)
  by_key : good_table pairs ≡ true → allows_key pairs key ≡ false → LookGiven pairs s key (refusal KeyWrong 0)
  by-segment : {r : Refusal} → good_table pairs ≡ true → allows_key pairs key ≡ true → Given pairs s r → LookGiven pairs s key r
