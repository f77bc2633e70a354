-- docs/SERVICES.md, "The order of refusals": each refusal of check is given exactly when its rule is broken, if none before it in the order applies. The order is
-- 14, 1 to 4, 51 to 55, 6, then records by number and within one 7 to 10, then 11, 12.
--   UpTo..      every rule is kept, in that order, up to and with the one named
--   Given       a refusal's rule is broken, and all that comes before it is kept
-- Assumes nothing: these are definitions.
use Rattle.std.specs.Prelude.{ℕ, ◌<◌, ◌≡◌, true, false, List, length}
use Rattle.answer.specs.declared.Refusal.{Refusal}
use Rattle.answer.specs.declared.Rule.TheVariants.{
  Size,
  Magic,
  Version,
  Header as HeaderWrong,
  LayoutBloom,
  LayoutRecords,
  LayoutDigests,
  LayoutExtents,
  LayoutLength,
  Checksum,
  Record as RecordWrong,
  Digest,
  Extents,
  Total,
  Visibility,
  Duplicate,
  Table,
}
use Rattle.answer.specs.Answers.{refusal}
use Rattle.segment.specs.declared.record.Record.{Record}
use Rattle.segment.specs.Format.{v3, header_of, record_count, record_at, record_no}
use Rattle.table.specs.Table.{good_table}
use Rattle.segment.specs.Keys.{FirstTwice}
use Rattle.segment.specs.Check.{key_no}
use Rattle.segment.specs.Meets.{
  SizeMeets,
  HeaderMeets,
  LayoutMeets,
  ChecksumMeets,
  MarksMeet,
  DigestMeets,
  ExtentsMeet,
  TotalMeets,
  RecordMeets,
  VisibilityMeets,
}
use Rattle.check_book.specs.Layout.{BloomLaid, RecordsLaid, DigestsLaid, ExtentsLaid, LengthLaid}

-- ---- the rules that the rule book has no name for: 2 and 3

abbrev pub MagicMeets : List ℕ → Type 0
MagicMeets s = (header_of s).magic ≡ v3.magic

abbrev pub VersionMeets : List ℕ → Type 0
VersionMeets s = (header_of s).version ≡ v3.version

-- record k of a segment
abbrev pub record_in : List ℕ → ℕ → Record
record_in s k = record_no v3 s (header_of s) k

-- the place of its refusals: the byte at which it begins
abbrev pub place_in : List ℕ → ℕ → ℕ
place_in s k = record_at v3 (header_of s) k

-- ---- what is kept before a rule's turn comes

-- 14 and 1
pub record UpToSize (pairs s : List ℕ) : Type 0 where
  pub table : good_table pairs ≡ true
  pub size : SizeMeets s

-- and 2, 3, 4
pub record UpToHeader (pairs s : List ℕ) : Type 0 where
  pub before : UpToSize pairs s
  pub magic : MagicMeets s
  pub version : VersionMeets s
  pub header : HeaderMeets (header_of s)

-- and 51 to 55
pub record UpToLayout (pairs s : List ℕ) : Type 0 where
  pub before : UpToHeader pairs s
  pub layout : LayoutMeets v3 s (header_of s)

-- and 6
pub record UpToChecksum (pairs s : List ℕ) : Type 0 where
  pub before : UpToLayout pairs s
  pub checksum : ChecksumMeets s

-- and 7 to 10 of every record
pub record UpToRecords (pairs s : List ℕ) : Type 0 where
  pub before : UpToChecksum pairs s
  pub each : (j : ℕ) → j < record_count (header_of s) → RecordMeets v3 pairs s (header_of s) (record_in s j)

-- and 11
pub record UpToVisibility (pairs s : List ℕ) : Type 0 where
  pub before : UpToRecords pairs s
  pub visibility : VisibilityMeets v3 s (header_of s)

-- record k's turn comes: 7 to 10 of every record before it
pub record Reached (pairs s : List ℕ) (k : ℕ) : Type 0 where
  pub before : UpToChecksum pairs s
  pub within : k < record_count (header_of s)
  pub earlier : (j : ℕ) → j < k → RecordMeets v3 pairs s (header_of s) (record_in s j)

-- ---- when each is given, and at which place

pub data Given (pairs s : List ℕ) : Refusal → Type 0 where
  by-table : good_table pairs ≡ false → Given pairs s (refusal Table 0)
  by_size : good_table pairs ≡ true → ¬ SizeMeets s → Given pairs s (refusal Size 0)
  by-magic : UpToSize pairs s → ¬ MagicMeets s → Given pairs s (refusal Magic 0)
  by-version : UpToSize pairs s → MagicMeets s → ¬ VersionMeets s → Given pairs s (refusal Version 0)
  by-header : UpToSize pairs s → MagicMeets s → VersionMeets s → ¬ HeaderMeets (header_of s) → Given pairs s (refusal HeaderWrong 0)
  -- a layout rule, at the byte of the header at which its fields begin
  by-layout-bloom : UpToHeader pairs s → ¬ BloomLaid (header_of s) → Given pairs s (refusal LayoutBloom 48)
  by-layout-records : UpToHeader pairs s → BloomLaid (header_of s) → ¬ RecordsLaid (header_of s) → Given pairs s (refusal LayoutRecords 32)
  by-layout-digests : UpToHeader pairs s → BloomLaid (header_of s) → RecordsLaid (header_of s) → ¬ DigestsLaid v3 (header_of s)
      → Given pairs s (refusal LayoutDigests 64)
  by-layout-extents : UpToHeader pairs s → BloomLaid (header_of s) → RecordsLaid (header_of s) → DigestsLaid v3 (header_of s)
      → ¬ ExtentsLaid (header_of s)
      → Given pairs s (refusal LayoutExtents 80)
  by-layout-length : UpToHeader pairs s → BloomLaid (header_of s) → RecordsLaid (header_of s) → DigestsLaid v3 (header_of s)
      → ExtentsLaid (header_of s)
      → ¬ LengthLaid (length s) (header_of s)
      → Given pairs s (refusal LayoutLength 88)
  by-checksum : UpToLayout pairs s → ¬ ChecksumMeets s → Given pairs s (refusal Checksum 0)
  by-marks : (k : ℕ) → Reached pairs s k → ¬ MarksMeet (header_of s) (record_in s k) → Given pairs s (refusal RecordWrong (place_in s k))
  by-digest : (k : ℕ) → Reached pairs s k → MarksMeet (header_of s) (record_in s k) → ¬ DigestMeets pairs (header_of s) (record_in s k)
      → Given pairs s (refusal Digest (place_in s k))
  by-extents : (k : ℕ) → Reached pairs s k → MarksMeet (header_of s) (record_in s k) → DigestMeets pairs (header_of s) (record_in s k)
      → ¬ ExtentsMeet (header_of s) (record_in s k)
      → Given pairs s (refusal Extents (place_in s k))
  by_total : (k : ℕ) → Reached pairs s k → MarksMeet (header_of s) (record_in s k) → DigestMeets pairs (header_of s) (record_in s k)
      → ExtentsMeet (header_of s) (record_in s k)
      → ¬ TotalMeets v3 s (record_in s k)
      → Given pairs s (refusal Total (place_in s k))
  by-visibility : UpToRecords pairs s → ¬ VisibilityMeets v3 s (header_of s) → Given pairs s (refusal Visibility 0)
  -- at the lowest record whose key stands earlier
  by-duplicate : (k : ℕ) → UpToVisibility pairs s → FirstTwice (key_no v3 s (header_of s)) (record_count (header_of s)) k
      → Given pairs s (refusal Duplicate (place_in s k))
