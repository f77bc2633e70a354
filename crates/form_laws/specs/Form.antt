-- What may be written: a heading, bloom bytes and records whose numbers fit their fields and keep the rules of docs/FORMAT.md, no two of them with the same
-- key. What is said of the records is said in any order.
--   Writable    of one record, under a table
--   Contents    of everything that a segment means
--   Form        and its form, with the records as they stand, is within the limit
--   Tidies      and its tidy form is
-- Assumes nothing: these are definitions.
use Rattle.std.specs.Prelude.{ℕ, ◌+◌, ◌%◌, ◌≤◌, ◌<◌, ◌≡◌, true, ◌≢◌, length}
use mathlib.Core.List.{List, Pairwise}
use Rattle.numbers.specs.Numbers.{Bytes}
use Rattle.segment.specs.declared.header.Heading.{Heading}
use Rattle.segment.specs.declared.extent.Extent.{Extent}
use Rattle.segment.specs.declared.shape.Shape.{Shape}
use Rattle.segment.specs.Format.{file_limit, record_limit, block_end}
use Rattle.segment.specs.Keys.{allows_key}
use Rattle.segment.specs.Check.{sum_lengths}
use Rattle.segment.specs.Meaning.{State, gone, live, Row, row_key, Meaning}
use Rattle.segment.specs.Tidy.{domain_of, form_of, tidy_form}
use Rattle.lists.specs.Lists.{Each}

-- ---- one record

-- an extent whose numbers fit their fields, and which lies inside its block
pub record ExtentWritable (e : Extent) : Type 0 where
  pub block : e.block < 18446744073709551616
  pub offset : e.offset.0 < 4294967296
  pub size : e.length < 4294967296
  pub inside : e.offset.0 + e.length ≤ block_end

-- the extents of a record that is not gone: at least one, and their lengths add up to what a total may be
pub record LiveWritable (sh : Shape) (es : List Extent) : Type 0 where
  pub some : 1 ≤ length es
  pub count : length es < 4294967296
  pub each : Each ExtentWritable es
  pub total : sum_lengths es ≤ sh.total_limit

abbrev pub StateWritable : Shape → State → Type 0
StateWritable sh gone = Unit
StateWritable sh (live es) = LiveWritable sh es

pub record Writable (sh : Shape) (pairs : List ℕ) (r : Row) : Type 0 where
  pub hash : r.key.hash_id < 4294967296
  pub digest : Bytes r.key.digest
  pub size : length r.key.digest < 65536
  pub allowed : allows_key pairs r.key ≡ true
  pub visibility : r.visibility ≤ 1
  pub source : domain_of r.source < 4294967296
  pub state : StateWritable sh r.state

-- ---- all of them

pub record HeadingWritable (t : Heading) : Type 0 where
  pub shard : t.shard < 65536
  pub snapshot_min : t.snapshot_min < 18446744073709551616
  pub snapshot_max : t.snapshot_max < 18446744073709551616
  pub domain : t.domain < 4294967296
  pub seal_snapshot : t.seal_snapshot < 18446744073709551616
  pub seal_time : t.seal_time < 18446744073709551616

-- no two records with the same key
abbrev pub KeysApart : List Row → Type 0
KeysApart rs = Pairwise (λ (a b : Row). row_key a ≢ row_key b) rs

pub record Contents (sh : Shape) (pairs : List ℕ) (t : Heading) (bloom : List ℕ) (rs : List Row) : Type 0 where
  pub heading : HeadingWritable t
  pub bloom_bytes : Bytes bloom
  pub bloom_divides : length bloom % 8 ≡ 0
  pub few : length rs ≤ record_limit
  pub each : Each (Writable sh pairs) rs
  pub apart : KeysApart rs

-- ---- within the limit

pub record Form (sh : Shape) (pairs : List ℕ) (t : Heading) (bloom : List ℕ) (rs : List Row) : Type 0 where
  pub contents : Contents sh pairs t bloom rs
  pub fits : length (form_of sh t bloom rs) ≤ file_limit

pub record Tidies (sh : Shape) (pairs : List ℕ) (m : Meaning) : Type 0 where
  pub contents : Contents sh pairs m.heading m.bloom m.records
  pub fits : length (tidy_form sh m) ≤ file_limit
