-- The P cases speak of any file of a description. Here is a member of each: a table, and files that are such ones.
--   sealed     a body with its footer, which carries the right checksum
--   unused     the body of a file with no records, but with bloom bytes, digest bytes and an extent
--   among      that of one with bloom bytes, and a record between two others
--   Members    each description has a member
-- Assumes nothing: these are definitions.
use Rattle.std.specs.Prelude.{ℕ, ◌<◌, ◌≡◌, true, List, [], ◌∷◌, ◌++◌, length, replicate, None, Some}
use Rattle.crc64.specs.Crc.{crc}
use Rattle.segment.specs.declared.header.Heading.{Heading}
use Rattle.segment.specs.declared.record.Record.{Record}
use Rattle.segment.specs.declared.extent.Extent.{Extent}
use Rattle.segment.specs.Format.{v3, in_block, header_of, records_offset, bloom_offset, bloom_size}
use Rattle.table.specs.Table.{good_table, allows}
use Rattle.segment.specs.Keys.{key_from, allows_key}
use Rattle.segment.specs.Meets.{KeysDiffer}
use Rattle.segment.specs.Meaning.{State, gone, live, Row}
use Rattle.segment.specs.Tidy.{packed, header_fields, record_fields, extent_list_bytes, footer_fields, record_for, header_over}
use Rattle.form_laws.specs.Form.{Writable}
use Rattle.theorem_demands.specs.Refusals.{record_in, UpToHeader}
use Rattle.theorem_cases.specs.PCases.{
  UpToDigest,
  UpToExtents,
  AllBut10,
  Sections,
  tidy_of_rows,
  NoRecords,
  row_with,
  case_l,
  AtBlockEnd,
  OthersFit,
  EmptyAt,
  GonePublished,
}

-- ---- files

-- 1 → 2, 7 → 4
abbrev pub table : List ℕ
table = 1 ∷ 2 ∷ 7 ∷ 4 ∷ []

abbrev pub heading : Heading
heading = record {
  shard = 1;
  snapshot_min = 2;
  snapshot_max = 8;
  domain = 5;
  seal_snapshot = 8;
  seal_time = 1000;
}

abbrev pub zeros : ℕ → List ℕ
zeros n = replicate n 0

-- a body with its footer
unfoldable pub sealed : List ℕ → List ℕ
sealed body =
    body
    ++ packed (footer_fields (record { checksum = crc body; seal_snapshot = heading.seal_snapshot; seal_time = heading.seal_time }))

unfoldable pub record_list_bytes : List Record → List ℕ
record_list_bytes [] = []
record_list_bytes (r ∷ rs) = packed (record_fields v3 r) ++ record_list_bytes rs

-- a header that shows a visibility, 8 bloom bytes, some records, 8 bytes of digests, and some extents
unfoldable pub body_of : ℕ → List Record → List Extent → List ℕ
body_of visibility rs es =
    packed (header_fields (header_over v3 heading 8 (length rs) 8 (length es) visibility))
    ++ (replicate 8 255 ++ (record_list_bytes rs ++ ((1 ∷ 2 ∷ 3 ∷ 4 ∷ 5 ∷ 6 ∷ 7 ∷ 8 ∷ []) ++ extent_list_bytes es)))

abbrev pub extent_with : (offset length : ℕ) → Extent
extent_with offset long = record { block = 9; offset = in_block offset; length = long }

-- no records, but bloom bytes, digest bytes and an extent
abbrev pub unused : ℕ → List ℕ
unused visibility = body_of visibility [] (extent_with 64 3 ∷ [])

-- hash 1, digest 0203, gone, internal
abbrev pub first_row : Row
first_row = record { key = key_from 1 (2 ∷ 3 ∷ []); visibility = 0; source = None; state = gone }

-- hash 7, digest 03040506, published, imported from domain 6
abbrev pub middle_row : State → Row
middle_row state = record { key = key_from 7 (3 ∷ 4 ∷ 5 ∷ 6 ∷ []); visibility = 1; source = Some 6; state = state }

-- hash 7, digest 05060708, internal, with one extent
abbrev pub last_row : Row
last_row = record { key = key_from 7 (5 ∷ 6 ∷ 7 ∷ 8 ∷ []); visibility = 0; source = None; state = live (extent_with 64 3 ∷ []) }

-- these three: their digests lie at 265, 266 and 268 and share bytes. Of the extents the first, at 272, is the last record's, the third is unused, and
-- the middle record's lie where it is said
unfoldable pub among : (visibility : ℕ) → State → (extents_at : ℕ) → Extent → List ℕ
among visibility state at e =
    body_of visibility (record_for 5 first_row 265 0 ∷ record_for 5 (middle_row state) 266 at ∷ record_for 5 last_row 268 272 ∷ [])
    (extent_with 64 3 ∷ e ∷ extent_with 64 3 ∷ [])

-- two extents, the first shared with the last record, and the second with the last byte of a block, or past it
abbrev pub at_end : ℕ → List ℕ
at_end long = among 1 (live (extent_with 64 3 ∷ extent_with 4294967295 long ∷ [])) 272 (extent_with 4294967295 long)

-- one extent, of length 0
abbrev pub exported : List ℕ
exported = among 1 (live (extent_with 64 0 ∷ [])) 288 (extent_with 64 0)

-- not gone, with no extent
abbrev pub without : List ℕ
without = among 1 (live []) 272 (extent_with 64 3)

-- gone; no other is published
abbrev pub gone_among : ℕ → List ℕ
gone_among visibility = among visibility gone 0 (extent_with 64 3)

-- 2^64 − 112 bloom bytes, and the other offsets as they would wrap
unfoldable pub wrapped : List ℕ
wrapped = packed (header_fields (header_over v3 heading 18446744073709551504 0 0 0 0))

-- hash 7, digest 0a0b0c0d, published, imported from domain 6, with the last byte of a block
abbrev pub member_row : Row
member_row = row_with 7 0x0a 0x0b 0x0c 0x0d 1 (Some 6) (extent_with 4294967295 1)

-- ---- the members, in the order of the cases

pub record Members : Type 0 where
  pub good-table : good_table table ≡ true
  pub good-key : allows_key table (key_from 1 (2 ∷ 3 ∷ [])) ≡ true
  pub no-records : NoRecords table (sealed (unused 0)) 0
  pub sections-none : Sections (tidy_of_rows heading []) 0 0 0
  pub nothing : length (zeros 0) ≡ 0
  pub one_less : length (zeros 135) ≡ 135
  pub sections-one : Sections (tidy_of_rows heading (member_row ∷ [])) 1 8 1
  pub one-row : Writable v3 table member_row
  pub sections-l : Sections (tidy_of_rows heading case_l) 2 8 1
  pub seven : allows table 7 4 ≡ true
  pub great-bloom : UpToHeader table (sealed wrapped) × (bloom_offset (header_of (sealed wrapped)) ≡ 112)
      × (bloom_size (header_of (sealed wrapped)) ≡ 18446744073709551504) × (records_offset (header_of (sealed wrapped)) ≡ 0)
  pub block-good : AllBut10 table (sealed (at_end 1)) 1 × AtBlockEnd (sealed (at_end 1)) 1 1 1 × OthersFit (sealed (at_end 1)) 1 1
  pub block-past : UpToExtents table (sealed (at_end 2)) 1 × AtBlockEnd (sealed (at_end 2)) 1 1 2
  pub empty-export : AllBut10 table (sealed exported) 1 × EmptyAt (sealed exported) 1
  pub live-without : UpToDigest table (sealed without) 1 × ((record_in (sealed without) 1).flags ≡ 0)
      × ((record_in (sealed without) 1).extent_count ≡ 0)
  pub shown-nothing : NoRecords table (sealed (unused 1)) 1
  pub gone-shown : GonePublished table (sealed (gone_among 1)) 1 1 × KeysDiffer v3 (sealed (gone_among 1)) (header_of (sealed (gone_among 1)))
  pub gone-hidden : GonePublished table (sealed (gone_among 0)) 1 0
  -- no other record of the last two is published
  pub only_gone : (visibility j : ℕ) → j < 3 → (j ≡ 1 → ⊥) → (record_in (sealed (gone_among visibility)) j).visibility ≡ 0
