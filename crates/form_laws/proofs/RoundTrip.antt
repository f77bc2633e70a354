-- What is written is read back, and keeps the rules of docs/FORMAT.md: the round trip of the tidy form, for rows in any order.
--   form-means    the meaning of a form is what it was written for
--   form-meets    a form meets every rule
-- Assumes nothing.
use Prim.Native.Nat.{ℕ, ◌-◌, ◌≤◌, ◌<◌}
use mathlib.Core.Path.{◌≡◌, refl, sym, ap, ◌∙◌}
use mathlib.Core.HLevel.{¬_prop}
use mathlib.Core.Logic.{◌≢◌}
use mathlib.Core.List.{List, map}
use native.Mathlib.Omega.{arith}
use borrow.Author.Tests.{eq-eqb, ne_eqb}
use lib.Dec.{eqb}
use lib.ListN.{length}
use Rattle.lists.proofs.Tests.{by-test}
use Rattle.segment.specs.declared.header.Header.{Header}
use Rattle.segment.specs.declared.header.Heading.{Heading}
use Rattle.segment.specs.declared.shape.Shape.{Shape}
use Rattle.segment.specs.Format.{header_of, footer_of, records_offset, digests_offset, extents_offset, record_no}
use Rattle.segment.specs.Check.{bloom_place, visibility_no, key_no}
use Rattle.segment.specs.Meets.{LayoutMeets, ChecksumMeets, VisibilityMeets, KeysDiffer, SegmentMeets, Meets}
use Rattle.segment.specs.Meaning.{Row, row_key, row_of, row_no, rows_of, heading_of, meaning_of}
use Rattle.lists.specs.Lists.{count_from, Each}
use Rattle.segment.specs.Tidy.{header_fields, footer_fields, digest_bytes, digest_section, largest_visibility, form_header, form_body, form_of}
use Rattle.form_laws.specs.Form.{Form}
use Rattle.form_laws.proofs.PartsAt.{has_left, has-taken}
use Rattle.form_laws.proofs.PackedFields.{Fits}
use Rattle.form_laws.proofs.Structures.{header_read, footer-read}
use Rattle.segment.specs.Shapes.{Shaped}
use Rattle.segment.proofs.Shapes.{shaped-divides}
use Rattle.form_laws.proofs.Sizes.{section-long, section-divides, form-length}
use Rattle.form_laws.proofs.Checksum.{body_bytes, crc-fits}
use Rattle.form_laws.proofs.FormRecords.{Bounded, Placed, rows-read, records-meet}
use Rattle.lists.proofs.Counted.{each-iff, pairwise_iff}
use Rattle.form_laws.proofs.LargestVisibility.{none_above, largest-of-none, largest-fits, one-shown}
use Rattle.form_laws.proofs.FormParts.{header, ending, Parts, parts}

bloom-place-fits : (n : ℕ) → bloom_place n ≤ 112
bloom-place-fits n = by-test (eqb n 0) (λ e. rw e (omega arith)) (λ e. rw e (omega arith))

module _ (sh : Shape) (k : Shaped sh) (pairs : List ℕ) (t : Heading) (bloom : List ℕ) (rs : List Row) (f : Form sh pairs t bloom rs) where
  abbrev s : List ℕ
  s = form_of sh t bloom rs

  abbrev h : Header
  h = header sh t bloom rs

  at : Parts sh t bloom rs s
  at = parts sh k t bloom rs

  -- ---- header and footer

  header-fits : Each Fits (header_fields h)
  unfolding Each header_fields form_header
  header-fits =
      let long = form-length sh k t bloom rs in
      let place = bloom-place-fits (length bloom) in
      let shown = largest-fits sh pairs rs f.contents.each in
      omega (arith, k.magic, k.version, f.contents.heading, f.contents.few, f.fits)

  header-same : header_of s ≡ h
  header-same = header_read s h at.header-has header-fits

  ending-fits : Each Fits (footer_fields (ending sh t bloom rs))
  unfolding Each footer_fields
  ending-fits =
      let bytes = body_bytes sh pairs t bloom rs f.contents.bloom_bytes f.contents.each in
      omega (arith, crc-fits (form_body sh t bloom rs) bytes, f.contents.heading)

  ending-same : footer_of s (length s - 24) ≡ ending sh t bloom rs
  ending-same = footer-read s (length s - 24) (ending sh t bloom rs) at.ending-has ending-fits

  -- ---- records

  bounded : Bounded h
  unfolding form_header
  bounded =
      let long = form-length sh k t bloom rs in
      record { domain = omega (arith, f.contents.heading); digests = omega (arith, f.fits); extents = omega (arith, f.fits) }

  placed : Placed sh pairs s h rs (records_offset h) (digests_offset h) (extents_offset h)
  unfolding form_header digest_section
  placed = record {
    records = at.records-has;
    digests = has_left (digest_bytes rs) _ at.digests-has;
    extents = at.extents-has;
    digests_from = omega arith;
    digests_to = omega (arith, section-long rs);
    extents_from = omega arith;
    aligned = omega arith;
    extents_to = omega arith;
    rows = f.contents.each;
  }

  abbrev counted : List Row
  counted = map (row_no sh s h) (count_from 0 (length rs))

  rows_same : counted ≡ rs
  rows_same = rows-read sh k pairs s h bounded rs (records_offset h) (digests_offset h) (extents_offset h) 0 placed (omega arith)

  -- ---- the meaning

  pub form-means : meaning_of sh s ≡ record { heading = t; bloom = bloom; records = rs }
  unfolding meaning_of heading_of rows_of form_header
  form-means =
      let bytes = has-taken bloom (length bloom) at.bloom-has refl in
      rw (header-same, ending-same) (λ j. record { heading = t; bloom = bytes j; records = rows_same j })

  -- ---- the rules

  layout-meets : LayoutMeets sh s h
  unfolding form_header
  layout-meets =
      let b = f.contents.bloom_divides in
      let r = shaped-divides sh k (length rs) in
      let d = section-divides rs in
      record {
        no_bloom = λ e. rw (eq-eqb (length bloom) 0 e);
        bloom = λ n. rw (ne_eqb (length bloom) 0 n);
        few = omega (arith, f.contents.few);
        records = refl;
        digests = refl;
        extents = refl;
        file = form-length sh k t bloom rs;
        bloom_divides = by-test (eqb (length bloom) 0) (λ e. rw e) (λ e. rw e);
        records_divide = omega arith;
        digests_divide = omega arith;
        extents_divide = omega arith;
      }

  visibility-meets : VisibilityMeets sh s h
  unfolding form_header visibility_no row_no row_of
  visibility-meets =
      let below = none_above (largest_visibility rs) rs (omega arith) in
      record {
        largest = (each-iff (row_no sh s h) (λ (r : Row). r.visibility ≤ largest_visibility rs) (length rs)).0 (rw rows_same below);
        none = largest-of-none rs;
        shown = λ l.
            let a = one-shown (row_no sh s h) 0 (length rs) l in
            record { at = a.0; within = omega arith; here = a.2 ∙ ap largest_visibility rows_same };
      }

  keys-differ : KeysDiffer sh s h
  unfolding form_header key_no row_no row_of
  keys-differ i j a b e =
      let apart = (pairwise_iff (row_no sh s h) (λ (p q : Row). row_key p ≢ row_key q) (λ p q. ¬_prop) (length rs)).0 (rw rows_same f.contents.apart) in
      let not-before : ¬ (i < j) = λ l. apart i j l b e in
      let not_after : ¬ (j < i) = λ l. apart j i l a (sym e) in
      omega arith

  checksum-meets : ChecksumMeets s
  checksum-meets = rw (ending-same, at.body-taken)

  all_meet : SegmentMeets sh pairs s h
  unfolding form_header record_no
  all_meet = record {
    size = record { least = omega (arith, form-length sh k t bloom rs); most = f.fits };
    magic = refl;
    version = refl;
    header = record { size = refl; federation = refl; reserved = refl; flags = refl; visibility = largest-fits sh pairs rs f.contents.each };
    layout = layout-meets;
    checksum = checksum-meets;
    each = records-meet sh k pairs s h bounded rs (records_offset h) (digests_offset h) (extents_offset h) placed;
    visibility = visibility-meets;
    distinct = keys-differ;
  }

  pub form-meets : Meets sh pairs s
  form-meets = rw header-same all_meet
