-- docs/SERVICES.md, "Cases": the ten cases marked P, each a statement about the written meanings, and all of them as one list.
-- A case that gets past the checksum is stated for any such file that carries its right checksum: a file is described by the rules that it keeps and by
-- what its words say of one record, and all else is free: the table, the other records, bloom bytes, where digests and extents lie.
--   UpToDigest, UpToExtents, AllBut10    which rules are kept: up to one of record k, and all but one of record k
--   NoRecords, AtBlockEnd, OthersFit, EmptyAt, GonePublished    what the words of a case say of a file
--   Lies        where a file's sections lie
--   p_cases      the ten cases
-- Assumes nothing: these are definitions.
use Rattle.std.specs.Prelude.{ℕ, ◌+◌, ◌*◌, ◌≤◌, ◌<◌, ◌≡◌, true, ◌↔◌, List, [], ◌∷◌, length, take, drop, None}
use Rattle.answer.specs.Answers.{Answer, answered, Source}
use Rattle.segment.specs.Keys.{Key, key_from, allows_key}
use Rattle.segment.specs.declared.header.Heading.{Heading}
use Rattle.segment.specs.declared.record.Record.{Record}
use Rattle.segment.specs.declared.extent.Extent.{Extent}
use Rattle.segment.specs.Format.{
  v3,
  extent_size,
  block_end,
  in_block,
  header_of,
  extent_of,
  extents_in,
  record_count,
  records_offset,
  bloom_offset,
  bloom_size,
  digests_offset,
  digests_size,
  extents_offset,
  extent_count,
}
use Rattle.table.specs.Table.{good_table, allows}
use Rattle.segment.specs.Check.{sum_lengths, record_key, check_of}
use Rattle.segment.specs.Meets.{LayoutMeets, MarksMeet, DigestMeets, ExtentsMeet, RecordMeets, VisibilityMeets, KeysDiffer}
use Rattle.segment.specs.Meaning.{gone, live, Row}
use Rattle.segment.specs.Tidy.{tidy_form}
use Rattle.segment.specs.LookUp.{look_up_of}
use Rattle.form_laws.specs.Form.{Writable}
use Rattle.theorem_demands.specs.Answered.{accepted, absent, refused_by}
use Rattle.theorem_demands.specs.Refusals.{record_in, place_in, UpToHeader, UpToChecksum, UpToRecords, Reached}

-- ---- which rules a file keeps

-- those before record k's turn, and its 7 and 8
pub record UpToDigest (pairs s : List ℕ) (k : ℕ) : Type 0 where
  pub before : Reached pairs s k
  pub marks : MarksMeet (header_of s) (record_in s k)
  pub digest : DigestMeets pairs (header_of s) (record_in s k)

-- and its 9
pub record UpToExtents (pairs s : List ℕ) (k : ℕ) : Type 0 where
  pub before : UpToDigest pairs s k
  pub extents : ExtentsMeet (header_of s) (record_in s k)

-- and all that come after its 10: every rule but that one
pub record AllBut10 (pairs s : List ℕ) (k : ℕ) : Type 0 where
  pub before : UpToExtents pairs s k
  pub later : (j : ℕ) → k < j → j < record_count (header_of s) → RecordMeets v3 pairs s (header_of s) (record_in s j)
  pub visibility : VisibilityMeets v3 s (header_of s)
  pub distinct : KeysDiffer v3 s (header_of s)

-- ---- where its sections lie

-- a file without bloom bytes: how many records, bytes of digests and extents its header names
pub record Sections (s : List ℕ) (count size extents : ℕ) : Type 0 where
  pub bloom : bloom_size (header_of s) ≡ 0
  pub records : record_count (header_of s) ≡ count
  pub digests : digests_size (header_of s) ≡ size
  pub listed : extent_count (header_of s) ≡ extents

-- its bloom offset is 0; where the others lie, and how long it is
pub record Lies (s : List ℕ) (records digests size extents file : ℕ) : Type 0 where
  pub bloom_at : bloom_offset (header_of s) ≡ 0
  pub records_at : records_offset (header_of s) ≡ records
  pub digests_at : digests_offset (header_of s) ≡ digests
  pub digests_long : digests_size (header_of s) ≡ size
  pub extents_at : extents_offset (header_of s) ≡ extents
  pub long : length s ≡ file

-- the tidy form of a heading, no bloom bytes and some records
abbrev pub tidy_of_rows : Heading → List Row → List ℕ
tidy_of_rows t rows = tidy_form v3 (record { heading = t; bloom = []; records = rows })

-- ---- the cases, in the page's order

-- every rule up to 6 is kept; 0 records under a header of some visibility
pub record NoRecords (pairs s : List ℕ) (visibility : ℕ) : Type 0 where
  pub before : UpToChecksum pairs s
  pub none : record_count (header_of s) ≡ 0
  pub shown : (header_of s).visibility ≡ visibility

-- 0 records, no bloom: 136 bytes, bloom offset 0, the rest 112. Accepted; every valid key absent
pub record Empty : Type 0 where
  -- the layout rules ask just this of any file whose sections are empty
  pub lies-iff : (s : List ℕ) → Sections s 0 0 0 → LayoutMeets v3 s (header_of s) ↔ Lies s 112 112 0 112 136
  -- any file with 0 records, also one with bloom bytes, or bytes of digests and extents that no record uses
  pub accepts : (pairs s : List ℕ) → NoRecords pairs s 0 → check_of pairs s ≡ accepted
  pub finds-none : (pairs s : List ℕ) (key : Key) → NoRecords pairs s 0 → allows_key pairs key ≡ true → look_up_of pairs s key ≡ absent
  -- the tidy form of no records is one, under any heading
  pub form-lies : (t : Heading) → Lies (tidy_of_rows t []) 112 112 0 112 136
  pub form-empty : (pairs : List ℕ) (t : Heading) → good_table pairs ≡ true → NoRecords pairs (tidy_of_rows t []) 0

-- 0 bytes and 135 bytes: refusal 1
pub record Short : Type 0 where
  pub none : (pairs s : List ℕ) → good_table pairs ≡ true → length s ≡ 0 → check_of pairs s ≡ refused_by 1 0
  pub one_less : (pairs s : List ℕ) → good_table pairs ≡ true → length s ≡ 135 → check_of pairs s ≡ refused_by 1 0

-- a record with a 4-byte digest and one extent
abbrev pub row_with : (hash a b c d visibility : ℕ) → Source → Extent → Row
row_with hash a b c d visibility source e = record {
  key = key_from hash (a ∷ b ∷ c ∷ d ∷ []);
  visibility = visibility;
  source = source;
  state = live (e ∷ []);
}

-- one 4-byte digest, one extent: digests at 160, size 8, extents at 168, file 208, four zeros of padding
pub record OneRow : Type 0 where
  pub lies-iff : (s : List ℕ) → Sections s 1 8 1 → LayoutMeets v3 s (header_of s) ↔ Lies s 112 160 8 168 208
  pub form-lies : (t : Heading) (hash a b c d visibility : ℕ) (source : Source) (e : Extent)
      → Lies (tidy_of_rows t (row_with hash a b c d visibility source e ∷ [])) 112 160 8 168 208
  pub padded : (t : Heading) (hash a b c d visibility : ℕ) (source : Source) (e : Extent)
      → take 8 (drop 160 (tidy_of_rows t (row_with hash a b c d visibility source e ∷ []))) ≡ a ∷ b ∷ c ∷ d ∷ 0 ∷ 0 ∷ 0 ∷ 0 ∷ []
  -- numbers of the record that fit their fields, under a table that allows its key
  pub accepts : (pairs : List ℕ) (t : Heading) (hash a b c d visibility : ℕ) (source : Source) (e : Extent) → good_table pairs ≡ true
      → Writable v3 pairs (row_with hash a b c d visibility source e)
      → check_of pairs (tidy_of_rows t (row_with hash a b c d visibility source e ∷ [])) ≡ accepted

-- case L: hash 7, digest 0a0b0c0d, published, block 9 offset 64 length 3; and hash 7, digest 0a0b0c0e, gone, internal
abbrev pub case_l : List Row
case_l =
    record {
      key = key_from 7 (0x0a ∷ 0x0b ∷ 0x0c ∷ 0x0d ∷ []);
      visibility = 1;
      source = None;
      state = live (record { block = 9; offset = in_block 64; length = 3 } ∷ []);
    }
    ∷ record { key = key_from 7 (0x0a ∷ 0x0b ∷ 0x0c ∷ 0x0e ∷ []); visibility = 0; source = None; state = gone } ∷ []

-- case L's offsets 112, 208, 216, file 256
pub record CaseL : Type 0 where
  pub lies-iff : (s : List ℕ) → Sections s 2 8 1 → LayoutMeets v3 s (header_of s) ↔ Lies s 112 208 8 216 256
  pub form-lies : (t : Heading) → Lies (tidy_of_rows t case_l) 112 208 8 216 256
  pub accepts : (pairs : List ℕ) (t : Heading) → good_table pairs ≡ true → allows pairs 7 4 ≡ true
      → check_of pairs (tidy_of_rows t case_l) ≡ accepted

-- bloom offset 112, bloom size 2^64 − 112, records offset 0: refusal 52, at the byte of record count and records offset, whatever the other section numbers are
abbrev pub GreatBloom : Type 0
GreatBloom =
    (pairs s : List ℕ) → UpToHeader pairs s → bloom_offset (header_of s) ≡ 112 → bloom_size (header_of s) ≡ 18446744073709551504
    → records_offset (header_of s) ≡ 0 → check_of pairs s ≡ refused_by 52 32

-- extent j of record k
abbrev pub extent_in : List ℕ → ℕ → ℕ → Extent
extent_in s k j = extent_of s ((record_in s k).extents_offset.0 + extent_size * j)

-- record k is not gone, and its extent j has offset 4,294,967,295 and this length
pub record AtBlockEnd (s : List ℕ) (k j long : ℕ) : Type 0 where
  pub live : (record_in s k).flags ≡ 0
  pub within : j < (record_in s k).extent_count
  pub offset : (extent_in s k j).offset.0 ≡ 4294967295
  pub size : (extent_in s k j).length ≡ long

-- its other extents lie inside their blocks, and all lengths add up to its total, which fits
pub record OthersFit (s : List ℕ) (k j : ℕ) : Type 0 where
  pub fits : (i : ℕ) → i < (record_in s k).extent_count → (i ≡ j → ⊥) → (extent_in s k i).offset.0 + (extent_in s k i).length ≤ block_end
  pub sum : sum_lengths (extents_in s (record_in s k)) ≡ (record_in s k).total_length
  pub total : (record_in s k).total_length ≤ 4294967295

-- offset 4,294,967,295 length 1: good; length 2: refusal 10, whatever the total, the other extents and the later records are
pub record BlockEnd : Type 0 where
  pub good : (pairs s : List ℕ) (k j : ℕ) → AllBut10 pairs s k → AtBlockEnd s k j 1 → OthersFit s k j → check_of pairs s ≡ accepted
  pub past : (pairs s : List ℕ) (k j : ℕ) → UpToExtents pairs s k → AtBlockEnd s k j 2 → check_of pairs s ≡ refused_by 10 (place_in s k)

-- record k is not gone and has one extent, of length 0, with an offset that fits its field; its total is 0
pub record EmptyAt (s : List ℕ) (k : ℕ) : Type 0 where
  pub live : (record_in s k).flags ≡ 0
  pub one : (record_in s k).extent_count ≡ 1
  pub offset : (extent_in s k 0).offset.0 ≤ 4294967295
  pub size : (extent_in s k 0).length ≡ 0
  pub total : (record_in s k).total_length ≡ 0

-- present, with its visibility, domain and source, total 0, where its extents lie, and that it has one
abbrev pub found_empty : Record → Answer
found_empty r = answered (r.visibility ∷ r.domain ∷ r.imported ∷ r.source ∷ 0 ∷ r.extents_offset.0 ∷ 1 ∷ [])

-- one extent of length 0, total 0: present
abbrev pub EmptyExport : Type 0
EmptyExport =
    (pairs s : List ℕ) (k : ℕ) → AllBut10 pairs s k → EmptyAt s k → look_up_of pairs s (record_key s (record_in s k)) ≡ found_empty (record_in s k)

-- live with no extents: refusal 9, wherever they are said to lie and whatever the total and the later records are
abbrev pub LiveWithout : Type 0
LiveWithout =
    (pairs s : List ℕ) (k : ℕ) → UpToDigest pairs s k → (record_in s k).flags ≡ 0 → (record_in s k).extent_count ≡ 0
    → check_of pairs s ≡ refused_by 9 (place_in s k)

-- header visibility 1 over no records: refusal 11
abbrev pub ShownNothing : Type 0
ShownNothing = (pairs s : List ℕ) → NoRecords pairs s 1 → check_of pairs s ≡ refused_by 11 0

-- every rule up to 10 is kept; record k is gone and published, under a header of some visibility
pub record GonePublished (pairs s : List ℕ) (k visibility : ℕ) : Type 0 where
  pub before : UpToRecords pairs s
  pub within : k < record_count (header_of s)
  pub flags : (record_in s k).flags ≡ 1
  pub published : (record_in s k).visibility ≡ 1
  pub shown : (header_of s).visibility ≡ visibility

-- only a gone record is published: header visibility 1. With 0 the file is refused by 11. It is so whether or not others are published too
pub record GoneShown : Type 0 where
  pub must-show : (pairs s : List ℕ) (k : ℕ) → check_of pairs s ≡ accepted → k < record_count (header_of s)
      → (record_in s k).flags ≡ 1 → (record_in s k).visibility ≡ 1 → (header_of s).visibility ≡ 1
  pub accepts : (pairs s : List ℕ) (k : ℕ) → GonePublished pairs s k 1 → KeysDiffer v3 s (header_of s) → check_of pairs s ≡ accepted
  pub refuses : (pairs s : List ℕ) (k : ℕ) → GonePublished pairs s k 0 → check_of pairs s ≡ refused_by 11 0

-- ---- all of them

abbrev pub p_cases : List (Type 0)
p_cases =
    Empty ∷ Short ∷ OneRow ∷ CaseL ∷ GreatBloom ∷ BlockEnd ∷ EmptyExport ∷ LiveWithout ∷ ShownNothing ∷ GoneShown ∷ []

-- every statement of a list holds
abbrev pub AllHold : List (Type 0) → Type 0
AllHold [] = Unit
AllHold (p ∷ ps) = p × AllHold ps
