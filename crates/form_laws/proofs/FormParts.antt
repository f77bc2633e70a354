-- Where the parts of a form stand in it. This asks nothing of what is written.
--   header, records, ending   the header of a form, the bytes of its records, and its footer
--   Parts                     each part, where the header says that it is
-- Assumes nothing.
use Prim.Native.Nat.{ℕ, ◌+◌, ◌-◌}
use mathlib.Core.Path.{◌≡◌}
use mathlib.Core.List.{List, ◌++◌}
use native.Mathlib.Omega.{arith}
use lib.ListN.{length, take}
use Rattle.crc64.specs.Crc.{crc}
use Rattle.segment.specs.declared.header.Header.{Header}
use Rattle.segment.specs.declared.header.Heading.{Heading}
use Rattle.segment.specs.declared.footer.Footer.{Footer}
use Rattle.segment.specs.declared.shape.Shape.{Shape}
use Rattle.segment.specs.Format.{records_offset, digests_offset, extents_offset}
use Rattle.segment.specs.Meaning.{Row}
use Rattle.segment.specs.Tidy.{packed, header_fields, footer_fields, records_bytes, digest_section, extent_bytes, form_header, form_body, form_of}
use Rattle.form_laws.proofs.PartsAt.{HasAt, has-whole, has_left, has_right, has-taken}
use Rattle.form_laws.proofs.Structures.{header-long}
use Rattle.segment.specs.Shapes.{Shaped}
use Rattle.form_laws.proofs.Sizes.{records-long, body-length, form-length}

module _ (sh : Shape) (t : Heading) (bloom : List ℕ) (rs : List Row) where
  abbrev pub header : Header
  header = form_header sh t (length bloom) rs

  abbrev pub records : List ℕ
  records = records_bytes sh t.domain rs (digests_offset header) (extents_offset header)

  abbrev pub ending : Footer
  ending = record { checksum = crc (form_body sh t bloom rs); seal_snapshot = t.seal_snapshot; seal_time = t.seal_time }

pub record Parts (sh : Shape) (t : Heading) (bloom : List ℕ) (rs : List Row) (s : List ℕ) : Type 0 where
  pub header-has : HasAt s 0 (packed (header_fields (header sh t bloom rs)))
  pub bloom-has : HasAt s 112 bloom
  pub records-has : HasAt s (records_offset (header sh t bloom rs)) (records sh t bloom rs)
  pub digests-has : HasAt s (digests_offset (header sh t bloom rs)) (digest_section rs)
  pub extents-has : HasAt s (extents_offset (header sh t bloom rs)) (extent_bytes rs)
  pub ending-has : HasAt s (length s - 24) (packed (footer_fields (ending sh t bloom rs)))
  pub body-taken : take (length s - 24) s ≡ form_body sh t bloom rs

module _ (sh : Shape) (k : Shaped sh) (t : Heading) (bloom : List ℕ) (rs : List Row) where
  pub parts : Parts sh t bloom rs (form_of sh t bloom rs)
  unfolding form_of form_body form_header
  parts =
      let s = form_of sh t bloom rs in
      let h = header sh t bloom rs in
      let body = form_body sh t bloom rs in
      let end = packed (footer_fields (ending sh t bloom rs)) in
      let last = digest_section rs ++ extent_bytes rs in
      let behind = records sh t bloom rs ++ last in
      let long : length body ≡ length s - 24 = omega (arith, body-length sh k t bloom rs, form-length sh k t bloom rs) in
      let place : 0 + length body ≡ length s - 24 = omega arith in
      let all = has_left body end (has-whole s) in
      let after-header = rw (header-long h) at (has_right (packed (header_fields h)) (bloom ++ behind) all) in
      let after-bloom = has_right bloom behind after-header in
      let after-records = rw (records-long sh k t.domain rs (digests_offset h) (extents_offset h)) at (has_right (records sh t bloom rs) last after-bloom) in
      record {
        header-has = has_left (packed (header_fields h)) (bloom ++ behind) all;
        bloom-has = has_left bloom behind after-header;
        records-has = has_left (records sh t bloom rs) last after-bloom;
        digests-has = has_left (digest_section rs) (extent_bytes rs) after-records;
        extents-has = has_right (digest_section rs) (extent_bytes rs) after-records;
        ending-has = rw place at (has_right body end (has-whole s));
        body-taken = has-taken body (length s - 24) all long;
      }
