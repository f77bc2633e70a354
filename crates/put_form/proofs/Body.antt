-- The parts of a form put one behind the other: header, bloom bytes and sections are everything before the footer, and with the footer they are the form.
-- Assumes nothing.
use Prim.Native.Nat.{ℕ, ◌+◌, ◌-◌, ◌≤◌}
use mathlib.Core.Path.{◌≡◌, refl, sym, ap, ◌∙◌}
use mathlib.Core.List.{List, [], ◌++◌, append-nil}
use native.Mathlib.Omega.{arith}
use borrow.Rule.Slice.PartMut.{put_mid}
use lib.ListN.{length, take, drop, drop_of_length-le, length-append, length-drop}
use lib.Seq.{take_at, length-take-le}
use Rattle.numbers.specs.Numbers.{put}
use Rattle.numbers.proofs.NumberLaws.{put-put, length-put}
use Rattle.crc64.specs.Crc.{crc}
use Rattle.segment.specs.declared.header.Header.{Header}
use Rattle.segment.specs.declared.header.Heading.{Heading}
use Rattle.segment.specs.declared.footer.Footer.{Footer}
use Rattle.segment.specs.declared.shape.Shape.{Shape}
use Rattle.segment.specs.Shapes.{Shaped}
use Rattle.segment.specs.Format.{records_offset, digests_offset, extents_offset}
use Rattle.segment.specs.Meaning.{Row}
use Rattle.segment.specs.Tidy.{packed, header_fields, footer_fields, records_bytes, digest_section, extent_bytes, form_header, form_body, form_of}
use Rattle.form_laws.proofs.Structures.{header-long, footer-long}
use Rattle.form_laws.proofs.Sizes.{body-length, records-long, extent_bytes-long}
use Rattle.put_sections.proofs.Lends.{lent}
use Rattle.put_form.specs.Emit.{Plan, sections_under, body_under}
use Rattle.put_form.proofs.Plans.{planned}

module _ (sh : Shape) (wf : Shaped sh) (h : Header) (bloom : List ℕ) (rows : List Row) (used : ℕ) (o : List ℕ) (q : Plan sh h rows used (length o))
    (e : records_offset h ≡ 112 + length bloom) where
  abbrev head : List ℕ
  head = packed (header_fields h)

  sections-length : length (sections_under sh h rows) + records_offset h + 24 ≡ length o
  unfolding sections_under
  sections-length =
      let a = records_bytes sh h.domain rows (digests_offset h) (extents_offset h) in
      omega (
        arith,
        length-append a (digest_section rows ++ extent_bytes rows),
        length-append (digest_section rows) (extent_bytes rows),
        records-long sh wf h.domain rows (digests_offset h) (extents_offset h),
        extent_bytes-long rows,
        (planned wf q).digests,
        (planned wf q).extents,
        (planned wf q).count,
        (planned wf q).file,
      )

  pub head-room : 112 + length bloom + 24 ≤ length o
  head-room = omega (arith, sections-length, e)

  module _ (w₁ : List ℕ) (p₁ : w₁ ≡ put o 0 head) where
    pub long₁ : length w₁ ≡ length o
    long₁ = ap length p₁ ∙ length-put o 0 head (omega (arith, header-long h, head-room))

    module _ (w₂ : List ℕ) (p₂ : w₂ ≡ put w₁ 112 bloom) where
      long₂ : length w₂ ≡ length o
      long₂ = ap length p₂ ∙ length-put w₁ 112 bloom (omega (arith, long₁, head-room)) ∙ long₁

      -- the sections' stretch, from the bloom bytes to the footer
      pub stretch-room : records_offset h + 24 ≤ length w₂
      stretch-room = omega (arith, head-room, long₂, e)

      stretch-long : length (take (length w₂ - 24 - records_offset h) (drop (records_offset h) w₂)) ≡ length w₂ - 24 - records_offset h
      stretch-long = length-take-le (length w₂ - 24 - records_offset h) (drop (records_offset h) w₂) (omega (arith, length-drop (records_offset h) w₂))

      pub same-plan : Plan sh h rows used (records_offset h + length (take (length w₂ - 24 - records_offset h) (drop (records_offset h) w₂)) + 24)
      same-plan =
          let l : records_offset h + length (take (length w₂ - 24 - records_offset h) (drop (records_offset h) w₂)) + 24 ≡ length o = omega (arith, stretch-long, stretch-room, long₂) in
          rw l q

      pub body-done : (s : List ℕ) → s ≡ sections_under sh h rows
          → put_mid (records_offset h) (length w₂ - 24 - records_offset h) w₂ s ≡ put o 0 (body_under sh h bloom rows)
      unfolding body_under
      body-done s₃ p₃ =
          let s : List ℕ = sections_under sh h rows in
          let a : put (put w₁ 112 bloom) (112 + length bloom) s ≡ put w₁ 112 (bloom ++ s) = put-put w₁ 112 bloom s (omega (arith, long₁, head-room)) in
          let b : put (put o 0 head) (0 + length head) (bloom ++ s) ≡ put o 0 (head ++ (bloom ++ s)) = put-put o 0 head (bloom ++ s) (omega (arith, header-long h, head-room)) in
          let n : 0 + length head ≡ 112 = omega (arith, header-long h) in
          let c : put w₂ (records_offset h) s ≡ put w₁ 112 (bloom ++ s) =
          ap (λ (k : ℕ). put w₂ k s) e ∙ ap (λ (w : List ℕ). put w (112 + length bloom) s) p₂ ∙ a in
          let p : put_mid (records_offset h) (length w₂ - 24 - records_offset h) w₂ s₃ ≡ put w₂ (records_offset h) s =
          lent w₂ s₃ s (records_offset h) (length w₂ - 24 - records_offset h) p₃ (omega (arith, sections-length, long₂)) in
          p ∙ c ∙ ap (λ (w : List ℕ). put w 112 (bloom ++ s)) p₁ ∙ (rw n at b)

-- ---- with the footer

-- a list that is put over all of another
put_all : (o bs : List ℕ) → length o ≡ length bs → put o 0 bs ≡ bs
unfolding put
put_all o bs l =
    let d : drop (0 + length bs) o ≡ [] = drop_of_length-le o {i = 0 + length bs} (omega arith) in
    rw d (append-nil bs)

module _ (sh : Shape) (wf : Shaped sh) (t : Heading) (h : Header) (bloom : List ℕ) (rows : List Row) (used : ℕ) (o : List ℕ) (q : Plan sh h rows used (length o))
    (e : h ≡ form_header sh t (length bloom) rows) where
  pub records-at : records_offset h ≡ 112 + length bloom
  unfolding form_header
  records-at = ap (λ (x : Header). records_offset x) e

  long : length o ≡ length (form_body sh t bloom rows) + 24
  long = omega (arith, (planned wf q).digests, (planned wf q).extents, (planned wf q).count, (planned wf q).file, records-at, body-length sh wf t bloom rows)

  same_body : body_under sh h bloom rows ≡ form_body sh t bloom rows
  unfolding body_under sections_under form_body form_header
  same_body = rw e

  module _ (w₁ : List ℕ) (p : w₁ ≡ put o 0 (body_under sh h bloom rows)) where
    abbrev body : List ℕ
    body = form_body sh t bloom rows

    over : w₁ ≡ put o 0 body
    over = p ∙ ap (put o 0) same_body

    pub body-room : length w₁ ≡ length body + 24
    body-room = ap length over ∙ length-put o 0 body (omega (arith, long)) ∙ long

    body-long : length w₁ - 24 ≡ length body
    body-long = omega (arith, body-room)

    body-stands : take (length w₁ - 24) w₁ ≡ body
    unfolding put
    body-stands = rw (body-long, over) (take_at body (drop (0 + length body) o) (length body) refl)

    pub form-done : (w₂ : List ℕ) (sum : ℕ) → sum ≡ crc (take (length w₁ - 24) w₁)
        → w₂ ≡ put w₁ (length w₁ - 24) (packed (footer_fields (record { checksum = sum; seal_snapshot = t.seal_snapshot; seal_time = t.seal_time })))
        → w₂ ≡ form_of sh t bloom rows
    unfolding form_of
    form-done w₂ sum g r =
        let f : Footer = record { checksum = crc body; seal_snapshot = t.seal_snapshot; seal_time = t.seal_time } in
        let end : List ℕ = packed (footer_fields f) in
        let c : sum ≡ crc body = g ∙ ap crc body-stands in
        let a : w₂ ≡ put w₁ (length body) end = rw (body-long, c) at r in
        let b : put (put o 0 body) (0 + length body) end ≡ put o 0 (body ++ end) = put-put o 0 body end (omega (arith, long)) in
        let n : 0 + length body ≡ length body = omega arith in
        let d : length o ≡ length (body ++ end) = sym (length-append body end ∙ omega (arith, footer-long f, long)) in
        a ∙ ap (λ (w : List ℕ). put w (length body) end) over ∙ (rw n at b) ∙ put_all o (body ++ end) d
