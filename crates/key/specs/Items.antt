-- The items whose keys are compared: the records of a segment, or the entries that write is lent. The bytes are the segment's, or the
-- run of digest bytes; the list is not read for records, and holds the entries.
--   item_hash, item_span   an item's hash id, and where its digest lies in the bytes
--   item_digest, item_head its digest, and what its key holds beside it
--   item_key              its key
--   item_place            the place of a refusal of an item
--   Item, Items          one item, and each of n items, can be read
-- Assumes nothing: these are definitions.
use Rattle.std.specs.Prelude.{ℕ, ◌+◌, ◌*◌, ◌≤◌, ◌<◌, List, length, take, drop}
use Rattle.offset.specs.declared.FileOffset.{FileOffset}
use Rattle.segment.specs.declared.shape.Shape.{Shape}
use Rattle.segment.specs.Format.{entry_size, record_from, record_of}
use Rattle.segment.specs.Shapes.{Shaped}
use Rattle.segment.specs.declared.entry.Entry.{Entry}
use Rattle.segment.specs.Keys.{key_of, key_from}
use Rattle.segment.specs.Write.{entry_no, entry_place}
use Rattle.key.specs.declared.Kind.{Kind}
use Rattle.key.specs.declared.Kind.TheVariants.{Records, Entries}
use Rattle.key.specs.declared.Span.{Span}
use Rattle.key.specs.declared.head.Head.{Head}

-- where the digest of a record lies, and of an entry
unfoldable pub record_span : Shape → List ℕ → ℕ → Span
record_span sh bytes at = record { start = (record_of sh bytes at).digest_offset.0; size = (record_of sh bytes at).digest_length }

unfoldable pub entry_span : Entry → Span
entry_span e = record { start = e.digest_start; size = e.digest_length }

unfoldable pub item_hash : Kind → List ℕ → List ℕ → ℕ → ℕ
item_hash (Records first sh) bytes list k = (record_of sh bytes (record_from sh first.0 k)).hash_id
item_hash Entries bytes list k = (entry_no list k).hash_id

unfoldable pub item_span : Kind → List ℕ → List ℕ → ℕ → Span
item_span (Records first sh) bytes list k = record_span sh bytes (record_from sh first.0 k)
item_span Entries bytes list k = entry_span (entry_no list k)

unfoldable pub item_digest : Kind → List ℕ → List ℕ → ℕ → List ℕ
item_digest kind bytes list k = take (item_span kind bytes list k).size (drop (item_span kind bytes list k).start bytes)

unfoldable pub item_head : Kind → List ℕ → List ℕ → ℕ → Head
item_head kind bytes list k = record { hash_id = item_hash kind bytes list k }

unfoldable pub item_key : Kind → List ℕ → List ℕ → ℕ → List ℕ
item_key kind bytes list k = key_of (key_from (item_hash kind bytes list k) (item_digest kind bytes list k))

-- the place of a refusal of an item: the byte at which a record begins, the number of an entry
unfoldable pub item_place : Kind → ℕ → ℕ
item_place (Records first sh) k = record_from sh first.0 k
item_place Entries k = entry_place k

-- a record stands in the bytes
pub record RecordStands (first : FileOffset) (sh : Shape) (bytes : List ℕ) (k : ℕ) : Type 0 where
  pub shaped : Shaped sh
  pub inside : record_from sh first.0 k + sh.record_size ≤ length bytes

-- the item itself stands in its source
unfoldable pub Stands : Kind → List ℕ → List ℕ → ℕ → Type 0
Stands (Records first sh) bytes list k = RecordStands first sh bytes k
Stands Entries bytes list k = entry_size * k + entry_size ≤ length list

-- and so does its digest, in the bytes
pub record Item (kind : Kind) (bytes list : List ℕ) (k : ℕ) : Type 0 where
  pub stands : Stands kind bytes list k
  pub digest : (item_span kind bytes list k).start + (item_span kind bytes list k).size ≤ length bytes

pub record Items (kind : Kind) (bytes list : List ℕ) (n : ℕ) : Type 0 where
  pub each : (k : ℕ) → k < n → Item kind bytes list k
