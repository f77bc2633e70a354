-- How long a form is, section by section. This asks nothing of what is written.
--   form-length       the sections of a form and its footer account for each byte
--   section-divides   the digest section is a multiple of 8 long
-- Assumes nothing.
use Prim.Native.Nat.{ℕ, ◌+◌, ◌*◌, ◌%◌}
use mathlib.Core.Path.{◌≡◌, refl, ◌∙◌}
use mathlib.Core.List.{List, [], ◌∷◌}
use native.Mathlib.Omega.{arith}
use lib.ListN.{length, length-append, length-replicate}
use Rattle.crc64.specs.Crc.{crc}
use Rattle.segment.specs.declared.header.Header.{Header}
use Rattle.segment.specs.declared.header.Heading.{Heading}
use Rattle.segment.specs.declared.footer.Footer.{Footer}
use Rattle.segment.specs.declared.shape.Shape.{Shape}
use Rattle.segment.specs.Meaning.{Row, row_extents}
use Rattle.segment.specs.Tidy.{
  packed,
  record_fields,
  footer_fields,
  record_for,
  records_bytes,
  digest_bytes,
  lacking,
  digest_section,
  extent_list_bytes,
  extent_bytes,
  extent_total,
  form_header,
  form_body,
  form_of,
}
use Rattle.form_laws.proofs.Structures.{header-long, footer-long, extents-long}
use Rattle.segment.specs.Shapes.{Shaped}
use Rattle.form_laws.proofs.Shapes.{record-long}

pub extent_bytes-long : (rs : List Row) → length (extent_bytes rs) ≡ 16 * extent_total rs
unfolding extent_bytes extent_total
extent_bytes-long [] = refl
extent_bytes-long (r ∷ rs) =
    length-append (extent_list_bytes (row_extents r)) (extent_bytes rs) ∙ omega (arith, extents-long (row_extents r), extent_bytes-long rs)

pub section-long : (rs : List Row) → length (digest_section rs) ≡ length (digest_bytes rs) + lacking (length (digest_bytes rs))
unfolding digest_section
section-long rs = simp (length-append, length-replicate)

pub section-divides : (rs : List Row) → length (digest_section rs) % 8 ≡ 0
section-divides rs = rw (section-long rs) (omega arith)

module _ (sh : Shape) (k : Shaped sh) where
  pub records-long : (domain : ℕ) (rs : List Row) (digestAt extents_at : ℕ)
      → length (records_bytes sh domain rs digestAt extents_at) ≡ sh.record_size * length rs
  unfolding records_bytes
  records-long domain [] digestAt extents_at = omega arith
  records-long domain (r ∷ rs) digestAt extents_at =
      let d = digestAt + length r.key.digest in
      let e = extents_at + 16 * length (row_extents r) in
      length-append (packed (record_fields sh (record_for domain r digestAt extents_at))) (records_bytes sh domain rs d e)
      ∙ omega (arith, record-long sh k (record_for domain r digestAt extents_at), records-long domain rs d e)

  module _ (t : Heading) (bloom : List ℕ) (rs : List Row) where
    pub body-length : length (form_body sh t bloom rs) ≡ 112 + length bloom + sh.record_size * length rs + length (digest_section rs) + 16 * extent_total rs
    unfolding form_body
    body-length =
        let h : Header = form_header sh t (length bloom) rs in
        simp (
          length-append,
          header-long h,
          records-long t.domain rs h.digests_offset.0 h.extents_offset.0,
          extent_bytes-long rs,
        ) (omega arith)

    pub form-length : length (form_of sh t bloom rs)
        ≡ 112 + length bloom + sh.record_size * length rs + length (digest_section rs) + 16 * extent_total rs + 24
    unfolding form_of
    form-length =
        let f : Footer = record { checksum = crc (form_body sh t bloom rs); seal_snapshot = t.seal_snapshot; seal_time = t.seal_time } in
        length-append (form_body sh t bloom rs) (packed (footer_fields f)) ∙ omega (arith, body-length, footer-long f)
