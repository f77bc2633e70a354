-- The rules of docs/FORMAT.md as a rule book: what a segment meets under a table, a field for each rule, gathered by the refusal that is given where one
-- of them is broken. Under a good table it says the same as the table of rules in Check, and in no order.
-- Assumes nothing: these are definitions.
use Rattle.std.specs.Prelude.{ℕ, ◌+◌, ◌-◌, ◌*◌, ◌%◌, ◌≤◌, ◌<◌, ◌≡◌, true, List, length, take}
use Rattle.crc64.specs.Crc.{crc}
use Rattle.segment.specs.declared.header.Header.{Header}
use Rattle.segment.specs.declared.record.Record.{Record}
use Rattle.segment.specs.declared.shape.Shape.{Shape}
use Rattle.segment.specs.Format.{
  header_size,
  extent_size,
  footer_size,
  least_file,
  file_limit,
  record_limit,
  block_end,
  header_of,
  extent_of,
  footer_of,
  record_count,
  records_offset,
  bloom_offset,
  bloom_size,
  digests_offset,
  digests_size,
  extents_offset,
  extent_count,
  record_no,
  extents_in,
}
use Rattle.table.specs.Table.{allows}
use Rattle.segment.specs.Keys.{NoKeyTwice}
use Rattle.segment.specs.Check.{sum_lengths, visibility_no, key_no}

-- 1
pub record SizeMeets (s : List ℕ) : Type 0 where
  pub least : least_file ≤ length s
  pub most : length s ≤ file_limit

-- 4
pub record HeaderMeets (h : Header) : Type 0 where
  pub size : h.header_size ≡ header_size
  pub federation : h.federation ≡ 0
  pub reserved : h.reserved ≡ 0
  pub flags : h.flags ≡ 0
  pub visibility : h.visibility ≤ 1

-- 51 to 55
pub record LayoutMeets (sh : Shape) (s : List ℕ) (h : Header) : Type 0 where
  pub no_bloom : bloom_size h ≡ 0 → bloom_offset h ≡ 0
  pub bloom : (bloom_size h ≡ 0 → ⊥) → bloom_offset h ≡ header_size
  pub few : record_count h ≤ record_limit
  pub records : records_offset h ≡ header_size + bloom_size h
  pub digests : digests_offset h ≡ records_offset h + sh.record_size * record_count h
  pub extents : extents_offset h ≡ digests_offset h + digests_size h
  pub file : length s ≡ extents_offset h + extent_size * extent_count h + footer_size
  pub bloom_divides : bloom_offset h % 8 ≡ 0
  pub records_divide : records_offset h % 8 ≡ 0
  pub digests_divide : digests_offset h % 8 ≡ 0
  pub extents_divide : extents_offset h % 8 ≡ 0

-- 6
abbrev pub ChecksumMeets : List ℕ → Type 0
ChecksumMeets s = (footer_of s (length s - footer_size)).checksum ≡ crc (take (length s - footer_size) s)

-- 7
pub record MarksMeet (h : Header) (r : Record) : Type 0 where
  pub reserved : r.reserved ≡ 0
  pub reserved_last : r.reserved_last ≡ 0
  pub flags : r.flags ≤ 1
  pub visibility : r.visibility ≤ 1
  pub imported : r.imported ≤ 1
  pub source : r.imported ≡ 0 → r.source ≡ 0
  pub domain : r.domain ≡ h.domain

-- 8
pub record DigestMeets (pairs : List ℕ) (h : Header) (r : Record) : Type 0 where
  pub allowed : allows pairs r.hash_id r.digest_length ≡ true
  pub starts : digests_offset h ≤ r.digest_offset.0
  pub ends : r.digest_offset.0 + r.digest_length ≤ digests_offset h + digests_size h

-- 9, of a gone record: extents offset and extent count 0
pub record GoneMeets (r : Record) : Type 0 where
  pub offset : r.extents_offset.0 ≡ 0
  pub count : r.extent_count ≡ 0

-- 9, of any other: at least one extent, its place is the section's plus a multiple of 16, and all lie inside the section
pub record LiveMeets (h : Header) (r : Record) : Type 0 where
  pub some : 1 ≤ r.extent_count
  pub starts : extents_offset h ≤ r.extents_offset.0
  pub aligned : (r.extents_offset.0 - extents_offset h) % extent_size ≡ 0
  pub ends : r.extents_offset.0 + extent_size * r.extent_count ≤ extents_offset h + extent_size * extent_count h

pub record ExtentsMeet (h : Header) (r : Record) : Type 0 where
  pub gone : r.flags ≡ 1 → GoneMeets r
  pub live : (r.flags ≡ 1 → ⊥) → LiveMeets h r

-- 10, of a record that is not gone: each extent inside its block, the lengths adding up to the total, which fits
pub record SumMeets (sh : Shape) (s : List ℕ) (r : Record) : Type 0 where
  pub fits : (j : ℕ) → j < r.extent_count
      → (extent_of s (r.extents_offset.0 + extent_size * j)).offset.0 + (extent_of s (r.extents_offset.0 + extent_size * j)).length ≤ block_end
  pub sum : sum_lengths (extents_in s r) ≡ r.total_length
  pub total : r.total_length ≤ sh.total_limit

pub record TotalMeets (sh : Shape) (s : List ℕ) (r : Record) : Type 0 where
  pub gone : r.flags ≡ 1 → r.total_length ≡ 0
  pub live : (r.flags ≡ 1 → ⊥) → SumMeets sh s r

-- 7 to 10
pub record RecordMeets (sh : Shape) (pairs s : List ℕ) (h : Header) (r : Record) : Type 0 where
  pub marks : MarksMeet h r
  pub digest : DigestMeets pairs h r
  pub extents : ExtentsMeet h r
  pub total : TotalMeets sh s r

-- 11: the header's visibility is the largest of the records', and 0 if there are none
pub record Shown (sh : Shape) (s : List ℕ) (h : Header) (v : ℕ) : Type 0 where
  pub at : ℕ
  pub within : at < record_count h
  pub here : visibility_no sh s h at ≡ v

pub record VisibilityMeets (sh : Shape) (s : List ℕ) (h : Header) : Type 0 where
  pub largest : (k : ℕ) → k < record_count h → visibility_no sh s h k ≤ h.visibility
  pub none : record_count h ≡ 0 → h.visibility ≡ 0
  pub shown : 0 < record_count h → Shown sh s h h.visibility

-- 12
abbrev pub KeysDiffer : Shape → List ℕ → Header → Type 0
KeysDiffer sh s h = NoKeyTwice (key_no sh s h) (record_count h)

-- a segment with the header h
pub record SegmentMeets (sh : Shape) (pairs s : List ℕ) (h : Header) : Type 0 where
  pub size : SizeMeets s
  pub magic : h.magic ≡ sh.magic
  pub version : h.version ≡ sh.version
  pub header : HeaderMeets h
  pub layout : LayoutMeets sh s h
  pub checksum : ChecksumMeets s
  pub each : (k : ℕ) → k < record_count h → RecordMeets sh pairs s h (record_no sh s h k)
  pub visibility : VisibilityMeets sh s h
  pub distinct : KeysDiffer sh s h

abbrev pub Meets : Shape → List ℕ → List ℕ → Type 0
Meets sh pairs s = SegmentMeets sh pairs s (header_of s)
