-- docs/FORMAT.md: sizes, limits, and where each field of the four structures stands. All numbers are little-endian,
-- unsigned and packed.
--   Shape       what differs between versions: magic, version, a record's size, whether its total is wide, and the total's limit
--   header_of, record_of, extent_of, footer_of    the fields of each structure, read from a list of bytes
--   record_from, record_at   where record k begins
-- Assumes nothing: these are definitions.
use Rattle.std.specs.Prelude.{ℕ, zero, suc, ◌+◌, ◌*◌, false, List, [], ◌∷◌, length}
use Rattle.numbers.specs.Numbers.{num_at}
pub use Rattle.field_record.specs.Sizes.{header_size, least_record, record_bytes, extent_size, footer_size, total_in}
use Rattle.offset.specs.declared.FileOffset.{FileOffset}
use Rattle.offset.specs.declared.BlockOffset.{BlockOffset}
use Rattle.segment.specs.declared.shape.Shape.{Shape}
use Rattle.segment.specs.declared.header.Header.{Header}
use Rattle.segment.specs.declared.record.Record.{Record}
use Rattle.segment.specs.declared.extent.Extent.{Extent}
use Rattle.segment.specs.declared.footer.Footer.{Footer}

-- ---- sizes and limits

abbrev pub least_file : ℕ
least_file = 136

abbrev pub file_limit : ℕ
file_limit = 1073741824

abbrev pub record_limit : ℕ
record_limit = 65536

-- the numbers of an entry, and of an extent, in the flat lists that write is lent
abbrev pub entry_size : ℕ
entry_size = 9

abbrev pub listed_size : ℕ
listed_size = 3

-- one more than the largest u32: where a block ends at the latest
abbrev pub block_end : ℕ
block_end = 4294967296

-- ---- what differs between versions

-- version 3. The magic is the ASCII text ASLIDX03, its first byte lowest
abbrev pub v3 : Shape
v3 = record {
  magic = 0x3330_5844_494C_5341;
  version = 3;
  record_size = least_record;
  total_wide = false;
  total_limit = 4294967295;
}

-- ---- fields

-- a place in the file, and a place in a block
abbrev pub in_file : ℕ → FileOffset
in_file n = record { 0 = n }

abbrev pub in_block : ℕ → BlockOffset
in_block n = record { 0 = n }

unfoldable pub header_of : List ℕ → Header
header_of s = record {
  magic = num_at 8 s 0;
  version = num_at 2 s 8;
  shard = num_at 2 s 10;
  header_size = num_at 4 s 12;
  snapshot_min = num_at 8 s 16;
  snapshot_max = num_at 8 s 24;
  record_count = num_at 8 s 32;
  records_offset = in_file (num_at 8 s 40);
  bloom_offset = in_file (num_at 8 s 48);
  bloom_size = num_at 8 s 56;
  digests_offset = in_file (num_at 8 s 64);
  digests_size = num_at 8 s 72;
  extents_offset = in_file (num_at 8 s 80);
  extent_count = num_at 8 s 88;
  domain = num_at 4 s 96;
  visibility = num_at 1 s 100;
  federation = num_at 1 s 101;
  reserved = num_at 2 s 102;
  flags = num_at 8 s 104;
}

-- the record that begins at a place
unfoldable pub record_of : Shape → List ℕ → ℕ → Record
record_of sh s at = record {
  hash_id = num_at 4 s at;
  digest_length = num_at 2 s (at + 4);
  reserved = num_at 2 s (at + 6);
  digest_offset = in_file (num_at 8 s (at + 8));
  extents_offset = in_file (num_at 8 s (at + 16));
  extent_count = num_at 4 s (at + 24);
  total_length = total_in sh.total_wide s at;
  domain = num_at 4 s (at + 32);
  visibility = num_at 1 s (at + 36);
  imported = num_at 1 s (at + 37);
  reserved_last = num_at 2 s (at + 38);
  source = num_at 4 s (at + 40);
  flags = num_at 4 s (at + 44);
}

unfoldable pub extent_of : List ℕ → ℕ → Extent
extent_of s at = record { block = num_at 8 s at; offset = in_block (num_at 4 s (at + 8)); length = num_at 4 s (at + 12) }

-- the footer that begins at a place
unfoldable pub footer_of : List ℕ → ℕ → Footer
footer_of s at = record { checksum = num_at 8 s at; seal_snapshot = num_at 8 s (at + 8); seal_time = num_at 8 s (at + 16) }

-- ---- names for what the rules speak of

abbrev pub record_count : Header → ℕ
record_count h = h.record_count

abbrev pub records_offset : Header → ℕ
records_offset h = h.records_offset.0

abbrev pub bloom_offset : Header → ℕ
bloom_offset h = h.bloom_offset.0

abbrev pub bloom_size : Header → ℕ
bloom_size h = h.bloom_size

abbrev pub digests_offset : Header → ℕ
digests_offset h = h.digests_offset.0

abbrev pub digests_size : Header → ℕ
digests_size h = h.digests_size

abbrev pub extents_offset : Header → ℕ
extents_offset h = h.extents_offset.0

abbrev pub extent_count : Header → ℕ
extent_count h = h.extent_count

-- where record k begins, of records that begin at a place; and of a segment's
abbrev pub record_from : Shape → ℕ → ℕ → ℕ
record_from sh first k = first + sh.record_size * k

abbrev pub record_at : Shape → Header → ℕ → ℕ
record_at sh h k = record_from sh (records_offset h) k

-- record k of a segment with the header h
unfoldable pub record_no : Shape → List ℕ → Header → ℕ → Record
record_no sh s h k = record_of sh s (record_at sh h k)

-- n extents, one after the other
unfoldable pub extents_at : List ℕ → ℕ → ℕ → List Extent
extents_at s at zero = []
extents_at s at (suc n) = extent_of s at ∷ extents_at s (at + extent_size) n

-- the extents of a record
abbrev pub extents_in : List ℕ → Record → List Extent
extents_in s r = extents_at s r.extents_offset.0 r.extent_count
