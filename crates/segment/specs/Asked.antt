-- The rules of docs/SERVICES.md, "Write", as a rule book: what an entry meets, a field for each rule, gathered by the refusal that is given where
-- one of them is broken; and the whole request.
-- Assumes nothing: these are definitions.
use Rattle.std.specs.Prelude.{ℕ, ◌+◌, ◌%◌, ◌≤◌, ◌<◌, ◌≡◌, true, List, length}
use Rattle.segment.specs.declared.entry.Entry.{Entry}
use Rattle.segment.specs.declared.extent.Extent.{Extent}
use Rattle.segment.specs.declared.shape.Shape.{Shape}
use Rattle.segment.specs.Format.{record_limit}
use Rattle.table.specs.Table.{allows}
use Rattle.segment.specs.Keys.{NoKeyTwice}
use Rattle.segment.specs.Check.{sum_lengths}
use Rattle.segment.specs.Write.{entry_count, listed_extents, entry_no, entry_extents, entry_key, all_listed_fit}

-- 7
pub record MarksAsked (e : Entry) : Type 0 where
  pub visibility : e.visibility ≤ 1
  pub imported : e.imported ≤ 1
  pub gone : e.gone ≤ 1
  pub source : e.source < 4294967296
  pub own : e.imported ≡ 0 → e.source ≡ 0

-- 15
pub record ListsAsked (digests extents : List ℕ) (e : Entry) : Type 0 where
  pub digest : e.digest_start + e.digest_length ≤ length digests
  pub slices : e.first_extent + e.extent_count ≤ listed_extents extents

-- 9
pub record PlacesAsked (e : Entry) : Type 0 where
  pub gone_first : e.gone ≡ 1 → e.first_extent ≡ 0
  pub gone_count : e.gone ≡ 1 → e.extent_count ≡ 0
  pub live : (e.gone ≡ 1 → ⊥) → 1 ≤ e.extent_count
  pub count : e.extent_count < 4294967296

-- 10, of the entry's extents
pub record TotalAsked (sh : Shape) (es : List Extent) : Type 0 where
  pub fits : all_listed_fit es ≡ true
  pub sum : sum_lengths es ≤ sh.total_limit

-- one entry; 8 is that the table allows its hash id with its digest length
pub record Asked (sh : Shape) (pairs digests extents : List ℕ) (e : Entry) : Type 0 where
  pub marks : MarksAsked e
  pub lists : ListsAsked digests extents e
  pub allowed : allows pairs e.hash_id e.digest_length ≡ true
  pub places : PlacesAsked e
  pub total : TotalAsked sh (entry_extents extents e)

-- 16 for the count, 51, each entry, and 12
pub record RequestAsked (sh : Shape) (pairs : List ℕ) (bloom : ℕ) (entries digests extents : List ℕ) : Type 0 where
  pub few : entry_count entries ≤ record_limit
  pub whole : bloom % 8 ≡ 0
  pub each : (k : ℕ) → k < entry_count entries → Asked sh pairs digests extents (entry_no entries k)
  pub fresh : NoKeyTwice (entry_key entries digests) (entry_count entries)
