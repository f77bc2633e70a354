-- docs/FORMAT.md, "Meaning and tidy form": shard, both snapshots, domain, bloom bytes, both seal numbers, and the set of the records, each with key,
-- visibility, source or none, and either gone or its extents in order. Two segments mean the same when all of these are equal.
--   Row, Meaning    a record's meaning, and a segment's; its records are listed, and count as a set
--   meaning_of       the meaning of an accepted segment
--   SameMeaning     two meanings are the same
-- Assumes nothing: these are definitions.
use Rattle.std.specs.Prelude.{ℕ, ◌-◌, ◌≡◌, cond, ◌↔◌, eqb, length, take, drop, None, Some}
use mathlib.Core.List.{List, [], map, Mem}
use Rattle.answer.specs.Answers.{Source}
use Rattle.segment.specs.declared.header.Header.{Header}
use Rattle.segment.specs.declared.header.Heading.{Heading}
use Rattle.segment.specs.declared.record.Record.{Record}
use Rattle.segment.specs.declared.extent.Extent.{Extent}
use Rattle.segment.specs.declared.shape.Shape.{Shape}
use Rattle.segment.specs.Format.{header_size, footer_size, header_of, footer_of, record_count, bloom_size, record_no, extents_in}
use Rattle.lists.specs.Lists.{count_from}
use Rattle.segment.specs.Keys.{Key, key_of}
use Rattle.segment.specs.Check.{is_gone, record_key}

pub data State : Type 0 where
  gone : State
  live : List Extent → State

pub record Row : Type 0 where
  pub key : Key
  pub visibility : ℕ
  pub source : Source
  pub state : State

-- the numbers of its key
abbrev pub row_key : Row → List ℕ
row_key r = key_of r.key

abbrev pub extents_of_state : State → List Extent
extents_of_state gone = []
extents_of_state (live es) = es

abbrev pub row_extents : Row → List Extent
row_extents r = extents_of_state r.state

pub record Meaning : Type 0 where
  pub heading : Heading
  pub bloom : List ℕ
  pub records : List Row

-- an imported record has its source domain, any other has none
abbrev pub source_of : ℕ → ℕ → Source
source_of imported domain = cond (eqb imported 0) None (Some domain)

unfoldable pub row_of : List ℕ → Record → Row
row_of s r = record {
  key = record_key s r;
  visibility = r.visibility;
  source = source_of r.imported r.source;
  state = cond (is_gone r) gone (live (extents_in s r));
}

unfoldable pub row_no : Shape → List ℕ → Header → ℕ → Row
row_no sh s h k = row_of s (record_no sh s h k)

-- the records of a segment, in the file's order
unfoldable pub rows_of : Shape → List ℕ → Header → List Row
rows_of sh s h = map (row_no sh s h) (count_from 0 (record_count h))

unfoldable pub heading_of : List ℕ → Header → Heading
heading_of s h = record {
  shard = h.shard;
  snapshot_min = h.snapshot_min;
  snapshot_max = h.snapshot_max;
  domain = h.domain;
  seal_snapshot = (footer_of s (length s - footer_size)).seal_snapshot;
  seal_time = (footer_of s (length s - footer_size)).seal_time;
}

unfoldable pub meaning_of : Shape → List ℕ → Meaning
meaning_of sh s = record {
  heading = heading_of s (header_of s);
  bloom = take (bloom_size (header_of s)) (drop header_size s);
  records = rows_of sh s (header_of s);
}

pub record SameMeaning (a b : Meaning) : Type 0 where
  pub heading : a.heading ≡ b.heading
  pub bloom : a.bloom ≡ b.bloom
  pub records : (r : Row) → Mem r a.records ↔ Mem r b.records
