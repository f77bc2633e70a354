-- An accepted segment whose digests and extents are packed is the form of its own meaning, with the records as they stand.
-- Assumes nothing.
use Prim.Native.Nat.{ℕ, zero, suc, ◌+◌, ◌-◌, ◌*◌, ◌%◌, ◌≤◌, ◌<◌}
use mathlib.Core.Path.{◌≡◌, refl, sym, ap, ap₂, ◌∙◌}
use mathlib.Core.Logic.{by_cases}
use mathlib.Core.List.{List, ◌++◌}
use native.Mathlib.Decide.{ℕ_discrete}
use native.Mathlib.Omega.{arith}
use borrow.Author.Tests.{eq-eqb, ne_eqb}
use lib.ListN.{length, get_or, drop, replicate, length-replicate, get_or-replicate}
use lib.Seq.{take-length, get_or-take, get_or-drop, ext_get_or}
use Rattle.numbers.specs.Numbers.{Bytes}
use Rattle.crc64.specs.Crc.{crc}
use Rattle.segment.specs.declared.header.Header.{Header}
use Rattle.segment.specs.declared.header.Heading.{Heading}
use Rattle.segment.specs.declared.footer.Footer.{Footer}
use Rattle.segment.specs.Format.{
  v3,
  header_of,
  footer_of,
  bloom_offset,
  bloom_size,
  records_offset,
  digests_offset,
  digests_size,
  extents_offset,
  extent_count,
}
use Rattle.segment.specs.Check.{bloom_place, visibility_no}
use Rattle.segment.specs.Meets.{LayoutMeets, Meets}
use Rattle.segment.specs.Meaning.{Row, row_of, row_no, heading_of}
use Rattle.segment.specs.Tidy.{
  packed,
  footer_fields,
  records_bytes,
  digest_bytes,
  lacking,
  digest_section,
  extent_bytes,
  extent_total,
  largest_visibility,
  form_header,
  form_body,
  form_of,
}
use Rattle.lists.proofs.Counted.{counted-long, each-iff}
use Rattle.form_laws.proofs.LargestVisibility.{none_above, largest-of-none, one-shown}
use Rattle.theorem_meaning.specs.Accounts.{part}
use Rattle.theorem_meaning.proofs.Accounts.{part-long}
use Rattle.theorem_tidiness.specs.Tidiness.{sum_below, digests_before, extents_before, IsPacked}
use Rattle.theorem_tidiness.proofs.WrittenAgain.{part-add, header-part, footer-part}
use Rattle.theorem_tidiness.proofs.Sums.{count, row, rows, digests-sum, extents-sum}
use Rattle.theorem_tidiness.proofs.PackedAgain.{records-on, digests-on, extents-on}

-- the next multiple of 8
round_up : (n size : ℕ) → size % 8 ≡ 0 → n ≤ size → size < n + 8 → size ≡ n + lacking n
round_up n size e l u = omega arith

-- two parts, the second where the first ends
joined : (s : List ℕ) (a m b n : ℕ) → a + m ≡ b → part s a m ++ part s b n ≡ part s a (m + n)
joined s a m b n e = ap (λ (k : ℕ). part s a m ++ part s k n) (sym e) ∙ sym (part-add s a m n)

module _ (pairs s : List ℕ) (b : Bytes s) (m : Meets v3 pairs s) where
  abbrev h : Header
  h = header_of s

  abbrev pub all : List Row
  all = rows pairs s m 0 (count pairs s m)

  abbrev pub heading : Heading
  heading = heading_of s h

  abbrev pub bloom : List ℕ
  bloom = part s 112 (bloom_size h)

  pub bloom-long : length bloom ≡ bloom_size h
  bloom-long = part-long s 112 (bloom_size h) (omega (arith, m.layout))

  pub all-long : length all ≡ count pairs s m
  all-long = counted-long (row pairs s m) 0 (count pairs s m)

  -- the first of them is record 0
  from_first : 0 + count pairs s m ≡ count pairs s m
  from_first = omega arith

  pub digests-whole : length (digest_bytes all) ≡ digests_before s (count pairs s m)
  unfolding sum_below
  digests-whole = let e = rw from_first at (digests-sum pairs s m (count pairs s m) 0 (omega arith)) in omega arith

  pub extents-whole : extent_total all ≡ extents_before s (count pairs s m)
  unfolding sum_below
  extents-whole = let e = rw from_first at (extents-sum pairs s m (count pairs s m) 0 (omega arith)) in omega arith

  -- ---- the header's visibility

  shown-most : largest_visibility all ≤ h.visibility
  unfolding visibility_no row_no row_of
  shown-most =
      by_cases (ℕ_discrete (count pairs s m) 0)
      (λ (e : count pairs s m ≡ 0). omega (arith, largest-of-none all (all-long ∙ e)))
      (λ (e : ¬ (count pairs s m ≡ 0)).
      let a = one-shown (row pairs s m) 0 (count pairs s m) (omega arith) in
      let below = m.visibility.largest a.0 (omega (arith, a.1)) in
      omega (arith, a.2))

  shown-least : h.visibility ≤ largest_visibility all
  unfolding visibility_no row_no row_of
  shown-least =
      by_cases (ℕ_discrete (count pairs s m) 0)
      (λ (e : count pairs s m ≡ 0). omega (arith, m.visibility.none e))
      (λ (e : ¬ (count pairs s m ≡ 0)).
      let a = m.visibility.shown (omega arith) in
      let top : ℕ = largest_visibility all in
      let each = (each-iff (row pairs s m) (λ (r : Row). r.visibility ≤ top) (count pairs s m)).0 (none_above top all (omega arith)) in
      let here = each a.at a.within in
      omega (arith, a.here))

  module _ (p : IsPacked s) where
    -- ---- the sections

    records-whole : records_bytes v3 h.domain all (digests_offset h) (extents_offset h) ≡ part s (records_offset h) (48 * count pairs s m)
    unfolding sum_below
    records-whole =
        rw from_first at (records-on pairs s b m p (count pairs s m) 0 (digests_offset h) (extents_offset h) (omega arith) (omega arith) (omega arith))

    digests-fit : (n : ℕ) → n ≤ count pairs s m → digests_before s n ≤ digests_size h
    unfolding sum_below
    digests-fit zero l = omega arith
    digests-fit (suc n) l = omega (arith, (m.each n (omega arith)).digest.ends, p.digests n (omega arith))

    rounded : digests_size h ≡ digests_before s (count pairs s m) + lacking (digests_before s (count pairs s m))
    rounded =
        let divides : digests_size h % 8 ≡ 0 = omega (arith, m.layout.extents, m.layout.digests_divide, m.layout.extents_divide) in
        round_up (digests_before s (count pairs s m)) (digests_size h) divides (digests-fit (count pairs s m) (omega arith)) p.rounded

    zeros-whole : (z : ℕ) → digests_before s (count pairs s m) + z ≡ digests_size h
        → replicate z 0 ≡ part s (digests_offset h + digests_before s (count pairs s m)) z
    zeros-whole z e =
        let at : ℕ = digests_offset h + digests_before s (count pairs s m) in
        let long : length (part s at z) ≡ z = part-long s at z (omega (arith, m.layout)) in
        ext_get_or 0 (replicate z 0) (part s at z) (length-replicate {A = ℕ} z 0 ∙ sym long)
        (λ i l.
        let less : i < z = omega (arith, length-replicate {A = ℕ} z 0) in
        let place : digests_offset h + (digests_before s (count pairs s m) + i) ≡ at + i = omega arith in
        get_or-replicate z i 0 0 less
        ∙ sym (get_or-take z (drop at s) i 0 less ∙ get_or-drop at s i 0
        ∙ ap (λ (k : ℕ). get_or s k 0) (sym place)
        ∙ p.zeros (digests_before s (count pairs s m) + i) (omega arith) (omega arith)))

    section-whole : digest_section all ≡ part s (digests_offset h) (digests_size h)
    unfolding digest_section sum_below
    section-whole =
        let n : ℕ = digests_before s (count pairs s m) in
        let front : digest_bytes all ≡ part s (digests_offset h) n = rw from_first at (digests-on pairs s b m p (count pairs s m) 0 (omega arith)) in
        let back = zeros-whole (lacking n) (sym rounded) in
        rw digests-whole (ap₂ (λ (x y : List ℕ). x ++ y) front back ∙ sym (part-add s (digests_offset h) n (lacking n)) ∙ ap (part s (digests_offset h)) (sym rounded))

    extents-all : extent_bytes all ≡ part s (extents_offset h) (16 * extent_count h)
    unfolding sum_below
    extents-all =
        rw from_first at (extents-on pairs s b m p (count pairs s m) 0 (omega arith)) ∙ ap (λ (k : ℕ). part s (extents_offset h) (16 * k)) (sym p.none-unused)

    -- ---- header and footer

    bloom-place : bloom_place (length bloom) ≡ bloom_offset h
    bloom-place =
        by_cases (ℕ_discrete (bloom_size h) 0)
        (λ (e : bloom_size h ≡ 0). rw (bloom-long, eq-eqb (bloom_size h) 0 e) (sym (m.layout.no_bloom e)))
        (λ (n : ¬ (bloom_size h ≡ 0)). rw (bloom-long, ne_eqb (bloom_size h) 0 n) (sym (m.layout.bloom n)))

    header-whole : form_header v3 heading (length bloom) all ≡ h
    unfolding form_header heading_of
    header-whole =
        let y : LayoutMeets v3 s h = m.layout in
        let size : length (digest_section all) ≡ digests_size h = ap length section-whole ∙ part-long s (digests_offset h) (digests_size h) (omega (arith, y)) in
        let shown : largest_visibility all ≡ h.visibility = omega (arith, shown-most, shown-least) in
        let at_records : 112 + length bloom ≡ records_offset h = omega (arith, y.records, bloom-long) in
        let at-digests : 112 + length bloom + 48 * length all ≡ digests_offset h = omega (arith, y.records, y.digests, bloom-long, all-long) in
        let at-extents : 112 + length bloom + 48 * length all + length (digest_section all) ≡ extents_offset h = omega (arith, y.extents) in
        λ j. record {
          magic = sym m.magic j;
          version = sym m.version j;
          shard = h.shard;
          header_size = sym m.header.size j;
          snapshot_min = h.snapshot_min;
          snapshot_max = h.snapshot_max;
          record_count = all-long j;
          records_offset = record { 0 = at_records j };
          bloom_offset = record { 0 = bloom-place j };
          bloom_size = bloom-long j;
          digests_offset = record { 0 = at-digests j };
          digests_size = size j;
          extents_offset = record { 0 = at-extents j };
          extent_count = (extents-whole ∙ sym p.none-unused) j;
          domain = h.domain;
          visibility = shown j;
          federation = sym m.header.federation j;
          reserved = sym m.header.reserved j;
          flags = sym m.header.flags j;
        }

    body-whole : form_body v3 heading bloom all ≡ part s 0 (length s - 24)
    unfolding form_body heading_of
    body-whole =
        let y : LayoutMeets v3 s h = m.layout in
        let end : 112 + (bloom_size h + (48 * count pairs s m + (digests_size h + 16 * extent_count h))) ≡ length s - 24 = omega (arith, y) in
        rw (
          header-whole,
          header-part s b (omega (arith, y)),
          records-whole,
          section-whole,
          extents-all,
          joined s (digests_offset h) (digests_size h) (extents_offset h) (16 * extent_count h) (sym y.extents),
          joined s (records_offset h) (48 * count pairs s m) (digests_offset h) (digests_size h + 16 * extent_count h) (sym y.digests),
          joined s 112 (bloom_size h) (records_offset h) (48 * count pairs s m + (digests_size h + 16 * extent_count h)) (sym y.records),
          joined s 0 112 112 (bloom_size h + (48 * count pairs s m + (digests_size h + 16 * extent_count h))) refl,
          end,
        )

    pub packed-form : form_of v3 heading bloom all ≡ s
    unfolding form_of heading_of
    packed-form =
        let at : ℕ = length s - 24 in
        let sealed : Footer = record { checksum = crc (form_body v3 heading bloom all); seal_snapshot = (footer_of s at).seal_snapshot; seal_time = (footer_of s at).seal_time } in
        let footer : sealed ≡ footer_of s at = λ j. record {
          checksum = (ap crc body-whole ∙ sym m.checksum) j;
          seal_snapshot = (footer_of s at).seal_snapshot;
          seal_time = (footer_of s at).seal_time;
        } in
        let end : at + 24 ≡ length s = omega (arith, m.layout) in
        ap₂ (λ (x y : List ℕ). x ++ y) body-whole (ap (λ (f : Footer). packed (footer_fields f)) footer ∙ footer-part s b at (omega arith))
        ∙ joined s 0 at at 24 (omega arith) ∙ ap (part s 0) end ∙ take-length s
