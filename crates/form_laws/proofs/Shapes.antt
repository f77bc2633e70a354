-- A record, written and read back, over any shape.
--   RecordFits    the numbers of a record fit their fields
-- Assumes nothing.
use Prim.Native.Nat.{ℕ, ◌≤◌, ◌<◌}
use mathlib.Core.Path.{◌≡◌, refl, sym, ap, ◌∙◌}
use mathlib.Core.Bool.{Bool, true, false, cond}
use mathlib.Core.List.{List}
use native.Mathlib.Nat.{add-zero}
use native.Mathlib.Omega.{arith}
use lib.ListN.{length}
use Rattle.numbers.specs.Numbers.{num_at}
use Rattle.segment.specs.declared.record.Record.{Record}
use Rattle.segment.specs.declared.shape.Shape.{Shape}
use Rattle.segment.specs.Format.{record_bytes, in_file, total_in, record_of}
use Rattle.segment.specs.Shapes.{Shaped}
use Rattle.segment.specs.Tidy.{packed, record_fields}
use Rattle.lists.specs.Lists.{Each}
use Rattle.form_laws.proofs.PartsAt.{HasAt}
use Rattle.form_laws.proofs.PackedFields.{widths, before, Fits, length-packed, field-read}

pub record RecordFits (sh : Shape) (r : Record) : Type 0 where
  pub hash : r.hash_id < 4294967296
  pub size : r.digest_length < 65536
  pub reserved : r.reserved ≡ 0
  pub digest_place : r.digest_offset.0 < 18446744073709551616
  pub extents_place : r.extents_offset.0 < 18446744073709551616
  pub count : r.extent_count < 4294967296
  pub total : r.total_length ≤ sh.total_limit
  pub domain : r.domain < 4294967296
  pub visibility : r.visibility ≤ 1
  pub imported : r.imported ≤ 1
  pub reserved_last : r.reserved_last ≡ 0
  pub source : r.source < 4294967296
  pub flags : r.flags ≤ 1

-- the same shape with a total of either width
abbrev with_total : Shape → Bool → Shape
with_total sh wide = record {
  magic = sh.magic;
  version = sh.version;
  record_size = sh.record_size;
  total_wide = wide;
  total_limit = sh.total_limit;
}

module _ (sh : Shape) (r : Record) where
  fields-wide : (wide : Bool) → widths (record_fields (with_total sh wide) r) ≡ record_bytes wide
  unfolding record_fields widths
  fields-wide true = refl
  fields-wide false = refl

  fields_fit : (wide : Bool) → sh.total_limit < cond wide 18446744073709551616 4294967296 → RecordFits sh r → Each Fits (record_fields (with_total sh wide) r)
  unfolding record_fields Each
  fields_fit true l f = omega arith
  fields_fit false l f = omega arith

  total-read : (wide : Bool) (s : List ℕ) (at : ℕ) → HasAt s at (packed (record_fields (with_total sh wide) r)) → Each Fits (record_fields (with_total sh wide) r)
      → total_in wide s at ≡ r.total_length
  unfolding record_fields before
  total-read true s at p e = field-read (record_fields (with_total sh true) r) p e 13
  total-read false s at p e = field-read (record_fields (with_total sh false) r) p e 6

module _ (sh : Shape) (k : Shaped sh) where
  pub record-long : (r : Record) → length (packed (record_fields sh r)) ≡ sh.record_size
  record-long r = length-packed (record_fields sh r) ∙ fields-wide sh r sh.total_wide ∙ sym k.size

  pub record-read : (s : List ℕ) (at : ℕ) (r : Record) → HasAt s at (packed (record_fields sh r)) → RecordFits sh r → record_of sh s at ≡ r
  unfolding record_of record_fields before
  record-read s at r p f =
      let e = fields_fit sh r sh.total_wide k.limit f in
      let read = field-read (record_fields sh r) p e in
      let first = ap (num_at 4 s) (sym (add-zero at)) ∙ read 0 in
      let total = total-read sh r sh.total_wide s at p e in
      λ j. record {
        hash_id = first j;
        digest_length = read 1 j;
        reserved = read 2 j;
        digest_offset = in_file (read 3 j);
        extents_offset = in_file (read 4 j);
        extent_count = read 5 j;
        total_length = total j;
        domain = read 7 j;
        visibility = read 8 j;
        imported = read 9 j;
        reserved_last = read 10 j;
        source = read 11 j;
        flags = read 12 j;
      }
