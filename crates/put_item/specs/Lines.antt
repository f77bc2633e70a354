-- What is written of an item, over the two kinds of source: the records of a segment, and the entries that write is lent. The bytes are the
-- segment's, or the run of digest bytes; the list holds the entries and the extents' list their extents, and neither is read for records.
--   item_entry     an item's nine numbers; a record's extents are counted in bytes of the segment, an entry's in extents of the list
--   item_extents   extents of an item's source, from a first one on
--   item_row       an item's row in the meaning
--   Line          what is known of an item that may be written
--   record_of_entry the record of an entry with its total, its domain and its two places
--   measured      what items come to: bytes of digests, extents, and the largest visibility
-- Assumes nothing: these are definitions.
use Rattle.std.specs.Prelude.{ℕ, ◌+◌, ◌*◌, ◌≤◌, ◌<◌, max, ◌≡◌, cond, List, [], ◌∷◌, map, eqb, length, take, drop}
use Rattle.segment.specs.declared.record.Record.{Record}
use Rattle.segment.specs.declared.extent.Extent.{Extent}
use Rattle.segment.specs.declared.entry.Entry.{Entry}
use Rattle.segment.specs.Format.{listed_size, in_file, extent_size, record_from, record_of, extent_of, extents_at}
use Rattle.segment.specs.Keys.{key_from}
use Rattle.segment.specs.Check.{sum_lengths}
use Rattle.segment.specs.Meaning.{gone, live, Row, source_of}
use Rattle.segment.specs.Write.{entry_no, listed_extent, extents_from}
use Rattle.key.specs.declared.Kind.{Kind}
use Rattle.key.specs.declared.Kind.TheVariants.{Records, Entries}
use Rattle.key.specs.Items.{Item}
use Rattle.lists.specs.Lists.{Each}
use Rattle.put_item.specs.declared.Sizes.{Sizes}

unfoldable pub record_entry : Record → Entry
record_entry r = record {
  hash_id = r.hash_id;
  digest_start = r.digest_offset.0;
  digest_length = r.digest_length;
  visibility = r.visibility;
  imported = r.imported;
  source = r.source;
  gone = r.flags;
  first_extent = r.extents_offset.0;
  extent_count = r.extent_count;
}

unfoldable pub item_entry : Kind → List ℕ → List ℕ → ℕ → Entry
item_entry (Records from sh) bytes list k = record_entry (record_of sh bytes (record_from sh from.0 k))
item_entry Entries bytes list k = entry_no list k

-- the j-th extent from the first on, and n of them
unfoldable pub item_extent : Kind → List ℕ → List ℕ → ℕ → ℕ → Extent
item_extent (Records from sh) bytes extents first j = extent_of bytes (first + extent_size * j)
item_extent Entries bytes extents first j = listed_extent extents (first + j)

unfoldable pub item_extents : Kind → List ℕ → List ℕ → ℕ → ℕ → List Extent
item_extents (Records from sh) bytes extents first n = extents_at bytes first n
item_extents Entries bytes extents first n = extents_from extents first n

-- they lie in their source
unfoldable pub Held : Kind → List ℕ → List ℕ → ℕ → ℕ → Type 0
Held (Records from sh) bytes extents first n = first + extent_size * n ≤ length bytes
Held Entries bytes extents first n = listed_size * (first + n) ≤ length extents

-- a record carries its total; an entry's is the sum of its extents
unfoldable pub item_total : Kind → List ℕ → List ℕ → List ℕ → ℕ → ℕ
item_total (Records from sh) bytes list extents k = (record_of sh bytes (record_from sh from.0 k)).total_length
item_total Entries bytes list extents k =
    sum_lengths (extents_from extents (entry_no list k).first_extent (entry_no list k).extent_count)

-- ---- rows

unfoldable pub extents_of_entry : Kind → List ℕ → List ℕ → Entry → List Extent
extents_of_entry kind bytes extents e = item_extents kind bytes extents e.first_extent e.extent_count

unfoldable pub row_of_entry : Kind → List ℕ → List ℕ → Entry → Row
row_of_entry kind bytes extents e = record {
  key = key_from e.hash_id (take e.digest_length (drop e.digest_start bytes));
  visibility = e.visibility;
  source = source_of e.imported e.source;
  state = cond (eqb e.gone 1) gone (live (extents_of_entry kind bytes extents e));
}

unfoldable pub item_row : Kind → List ℕ → List ℕ → List ℕ → ℕ → Row
item_row kind bytes list extents k = row_of_entry kind bytes extents (item_entry kind bytes list k)

abbrev pub item_rows : Kind → List ℕ → List ℕ → List ℕ → List ℕ → List Row
item_rows kind bytes list extents numbers = map (item_row kind bytes list extents) numbers

-- ---- what may be written

-- numbers that fit the fields of a record
pub record Narrow (e : Entry) : Type 0 where
  pub hash : e.hash_id < 4294967296
  pub digest : e.digest_length ≤ 1024
  pub visibility : e.visibility ≤ 1
  pub imported : e.imported ≤ 1
  pub source : e.source < 4294967296
  pub gone : e.gone ≤ 1
  pub extents : e.extent_count < 4294967296

-- an item that can be read, whose numbers fit
pub record Counted (kind : Kind) (bytes list : List ℕ) (k : ℕ) : Type 0 where
  pub item : Item kind bytes list k
  pub narrow : Narrow (item_entry kind bytes list k)

pub record Line (kind : Kind) (bytes list extents : List ℕ) (k : ℕ) : Type 0 where
  pub counted : Counted kind bytes list k
  pub source : (item_entry kind bytes list k).imported ≡ 0 → (item_entry kind bytes list k).source ≡ 0
  pub none : (item_entry kind bytes list k).gone ≡ 1 → (item_entry kind bytes list k).extent_count ≡ 0
  pub held : Held kind bytes extents (item_entry kind bytes list k).first_extent (item_entry kind bytes list k).extent_count
  pub total : item_total kind bytes list extents k ≡ sum_lengths (extents_of_entry kind bytes extents (item_entry kind bytes list k))
  pub fits : item_total kind bytes list extents k < 18446744073709551616

abbrev pub Lines : Kind → List ℕ → List ℕ → List ℕ → List ℕ → Type 0
Lines kind bytes list extents numbers = Each (Line kind bytes list extents) numbers

-- ---- the record that is written

unfoldable pub record_of_entry : Entry → ℕ → ℕ → ℕ → ℕ → Record
record_of_entry e total domain digestAt extents_at = record {
  hash_id = e.hash_id;
  digest_length = e.digest_length;
  reserved = 0;
  digest_offset = in_file digestAt;
  extents_offset = in_file (cond (eqb e.gone 1) 0 extents_at);
  extent_count = e.extent_count;
  total_length = total;
  domain = domain;
  visibility = e.visibility;
  imported = e.imported;
  reserved_last = 0;
  source = e.source;
  flags = e.gone;
}

-- ---- what items come to

unfoldable pub measured : Kind → List ℕ → List ℕ → List ℕ → Sizes
measured kind bytes list [] = record { digests = 0; extents = 0; visibility = 0 }
measured kind bytes list (k ∷ numbers) = record {
  digests = (item_entry kind bytes list k).digest_length + (measured kind bytes list numbers).digests;
  extents = (item_entry kind bytes list k).extent_count + (measured kind bytes list numbers).extents;
  visibility = max (item_entry kind bytes list k).visibility (measured kind bytes list numbers).visibility;
}
