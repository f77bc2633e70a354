-- What a segment that meets the rules gives its reader: where everything lies, so that it can be read, and how its numbers agree.
--   Laid             the sections lie as the layout rules say for a shape, in a file of at most one GiB
--   Inside           the sections of digests and of extents lie in the file
--   RecordReadable   what a record names lies in the file, and its numbers are small and agree
--   Readable         the header that was read, the sections, and each record
-- Assumes nothing: these are definitions.
use Rattle.std.specs.Prelude.{ℕ, ◌+◌, ◌*◌, ◌≤◌, ◌<◌, ◌≡◌, List, length}
use Rattle.segment.specs.declared.header.Header.{Header}
use Rattle.segment.specs.declared.record.Record.{Record}
use Rattle.segment.specs.declared.shape.Shape.{Shape}
use Rattle.segment.specs.Format.{extent_size, least_file, file_limit, header_of, record_count, digests_offset, digests_size, extents_offset, extent_count, record_no, extents_in}
use Rattle.segment.specs.Shapes.{Shaped}
use Rattle.segment.specs.Check.{sum_lengths}
use Rattle.segment.specs.Meets.{LayoutMeets, MarksMeet}

pub record Laid (sh : Shape) (s : List ℕ) (h : Header) : Type 0 where
  pub shaped : Shaped sh
  pub layout : LayoutMeets sh s h
  pub most : length s ≤ file_limit

-- the sections that records name parts of lie in it, whatever the shape
pub record Inside (s : List ℕ) (h : Header) : Type 0 where
  pub digests : digests_offset h + digests_size h ≤ length s
  pub extents : extents_offset h + extent_size * extent_count h ≤ length s
  pub limit : length s ≤ file_limit

-- hash id and digest length are as small as the table has them
pub record RecordReadable (sh : Shape) (s : List ℕ) (h : Header) (r : Record) : Type 0 where
  pub marks : MarksMeet h r
  pub hash : r.hash_id < 4294967296
  pub short : r.digest_length ≤ 1024
  pub digest : r.digest_offset.0 + r.digest_length ≤ length s
  pub extents : r.extents_offset.0 + extent_size * r.extent_count ≤ length s
  pub none : r.flags ≡ 1 → r.extent_count ≡ 0
  pub total : r.total_length ≡ sum_lengths (extents_in s r)
  pub limit : r.total_length ≤ sh.total_limit

pub record Readable (sh : Shape) (s : List ℕ) (h : Header) : Type 0 where
  pub header : h ≡ header_of s
  pub long : least_file ≤ length s
  pub laid : Laid sh s h
  pub each : (k : ℕ) → k < record_count h → RecordReadable sh s h (record_no sh s h k)
