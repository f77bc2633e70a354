-- An accepted segment that is the form of its own meaning, with the records as they stand, has its digests and extents packed.
-- Assumes nothing.
use Prim.Native.Nat.{ℕ, zero, suc, ◌+◌, ◌-◌, ◌*◌, ◌≤◌, ◌<◌}
use mathlib.Core.Path.{◌≡◌, sym, ap, ◌∙◌}
use mathlib.Core.Logic.{by_cases}
use mathlib.Core.List.{List, [], ◌∷◌}
use native.Mathlib.Decide.{ℕ_discrete}
use native.Mathlib.Nat.{add-zero}
use native.Mathlib.Omega.{arith}
use borrow.Author.Tests.{ne_eqb}
use lib.Dec.{lit<}
use lib.ListN.{length, get_or, replicate, length-replicate, get_or-replicate}
use Rattle.numbers.specs.Numbers.{Bytes, bytes_of}
use Rattle.numbers.proofs.NumberLaws.{length-bytes_of}
use Rattle.segment.specs.declared.header.Header.{Header}
use Rattle.segment.specs.declared.header.Heading.{Heading}
use Rattle.segment.specs.declared.record.Record.{Record}
use Rattle.segment.specs.Format.{v3, header_of, record_of, record_no, bloom_size, records_offset, digests_offset, digests_size, extents_offset, extent_count}
use Rattle.segment.specs.Meets.{Meets}
use Rattle.segment.specs.Meaning.{Row, row_of, row_no, heading_of}
use Rattle.lists.specs.Lists.{count_from}
use Rattle.segment.specs.Tidy.{
  Field,
  packed,
  header_fields,
  record_fields,
  record_for,
  records_bytes,
  digest_bytes,
  lacking,
  digest_section,
  extent_total,
  form_header,
  form_of,
}
use Rattle.form_laws.proofs.PartsAt.{HasAt, has_left, has_right, has-number}
use Rattle.form_laws.proofs.PackedFields.{before, field}
use Rattle.segment.proofs.Shapes.{v3-shaped}
use Rattle.form_laws.proofs.Shapes.{record-long}
use Rattle.form_laws.proofs.Sizes.{section-long, form-length}
use Rattle.form_laws.proofs.FormParts.{header, Parts, parts}
use Rattle.theorem_demands.specs.Refusals.{record_in}
use Rattle.theorem_demands.proofs.Flat.{stands_at}
use Rattle.theorem_tidiness.specs.Tidiness.{sum_below, digests_before, extents_before, IsPacked}
use Rattle.theorem_tidiness.proofs.Sums.{digest_place, extent_place, sum-grows, count, row, rows, digest-long, extents-long}
use Rattle.theorem_tidiness.proofs.Forming.{all, heading, bloom, bloom-long, all-long, digests-whole, extents-whole}

-- where fields stand, each of them stands
field-has : (fs : List Field) (i : ℕ) → i < length fs → {s : List ℕ} {at : ℕ} → HasAt s at (packed fs)
    → HasAt s (at + before fs i) (bytes_of (field fs i).width (field fs i).value)
unfolding packed before
field-has [] i l h = absurd (omega arith)
field-has (f ∷ fs) zero l {at = at} h = rw (add-zero at) (has_left (bytes_of f.width f.value) (packed fs) h)
field-has (f ∷ fs) (suc i) l {at = at} h =
    let place : at + f.width + before fs i ≡ at + (f.width + before fs i) = omega arith in
    let rest = rw (length-bytes_of f.width f.value) at (has_right (bytes_of f.width f.value) (packed fs) h) in
    rw place at (field-has fs i (omega arith) rest)

form-parts : (s : List ℕ) (t : Heading) (bloom : List ℕ) (rs : List Row) → form_of v3 t bloom rs ≡ s → Parts v3 t bloom rs s
form-parts s t bloom rs e = rw e at (parts v3 v3-shaped t bloom rs)

module _ (pairs s : List ℕ) (b : Bytes s) (m : Meets v3 pairs s) (is : form_of v3 (heading pairs s b m) (bloom pairs s b m) (all pairs s b m) ≡ s) where
  abbrev n : ℕ
  n = count pairs s m

  abbrev h : Header
  h = header_of s

  abbrev written : Header
  written = header v3 (heading pairs s b m) (bloom pairs s b m) (all pairs s b m)

  stand : Parts v3 (heading pairs s b m) (bloom pairs s b m) (all pairs s b m) s
  stand = form-parts s (heading pairs s b m) (bloom pairs s b m) (all pairs s b m) is

  long : length s ≡ 112 + bloom_size h + 48 * n + length (digest_section (all pairs s b m)) + 16 * extents_before s n + 24
  long =
      let e = ap length (sym is) ∙ form-length v3 v3-shaped (heading pairs s b m) (bloom pairs s b m) (all pairs s b m) in
      omega (arith, bloom-long pairs s b m, all-long pairs s b m, extents-whole pairs s b m)

  small : length s < 18446744073709551616
  small = omega (arith, m.size.most)

  -- ---- the header's two sizes

  size_is : digests_size h ≡ length (digest_section (all pairs s b m))
  unfolding header_of header_fields form_header before
  size_is = has-number 8 _ (field-has (header_fields written) 11 (lit< tt) stand.header-has) (omega (arith, small, long))

  count-is : extent_count h ≡ extent_total (all pairs s b m)
  unfolding header_of header_fields form_header before
  count-is = has-number 8 _ (field-has (header_fields written) 13 (lit< tt) stand.header-has) (omega (arith, small, long, extents-whole pairs s b m))

  -- where the three sections were written is where the header says
  at_records : records_offset written ≡ records_offset h
  unfolding form_header
  at_records = omega (arith, m.layout.records, bloom-long pairs s b m)

  at-digests : digests_offset written ≡ digests_offset h
  unfolding form_header
  at-digests = omega (arith, m.layout.records, m.layout.digests, bloom-long pairs s b m, all-long pairs s b m)

  at-extents : extents_offset written ≡ extents_offset h
  unfolding form_header
  at-extents = omega (arith, m.layout.extents, at-digests, size_is)

  -- ---- the records

  abbrev record_written : ℕ → Record
  record_written k = record_for h.domain (row pairs s m k) (digest_place s k) (extent_place s k)

  records-stand : (j k at d e : ℕ) → k + j ≤ n → at ≡ records_offset h + 48 * k → d ≡ digest_place s k → e ≡ extent_place s k
      → HasAt s at (records_bytes v3 h.domain (rows pairs s m k j) d e)
      → (i : ℕ) → k ≤ i → i < k + j → HasAt s (records_offset h + 48 * i) (packed (record_fields v3 (record_written i)))
  unfolding records_bytes count_from sum_below
  records-stand zero k at d e l a f g r i u v = absurd (omega arith)
  records-stand (suc j) k at d e l a f g r i u v =
      let first : Record = record_for h.domain (row pairs s m k) d e in
      let digests = digest-long pairs s m k (omega arith) in
      let extents = extents-long pairs s m k (omega arith) in
      by_cases (ℕ_discrete i k)
      (λ (q : i ≡ k). rw (q, ← a, ← f, ← g) (has_left (packed (record_fields v3 first)) _ r))
      (λ (q : ¬ (i ≡ k)).
      let rest = rw (record-long v3 v3-shaped first) at (has_right (packed (record_fields v3 first)) _ r) in
      records-stand j (suc k) (at + 48) _ _ (omega arith) (omega arith) (omega arith) (omega arith) rest i (omega arith) (omega arith))

  record-stands : (k : ℕ) → k < n → HasAt s (records_offset h + 48 * k) (packed (record_fields v3 (record_written k)))
  unfolding heading_of sum_below
  record-stands k l =
      records-stand n 0 _ _ _ (omega arith) (omega (arith, at_records)) (omega (arith, at-digests)) (omega (arith, at-extents)) stand.records-has k (omega arith)
      (omega arith)

  -- ---- their places

  places-fit : (k : ℕ) → k < n → (digest_place s k < 18446744073709551616) × (extent_place s k < 18446744073709551616)
  places-fit k l =
      let digests = sum-grows (λ (j : ℕ). (record_in s j).digest_length) k n (omega arith) in
      let extents = sum-grows (λ (j : ℕ). (record_in s j).extent_count) k n (omega arith) in
      let section = section-long (all pairs s b m) in
      (omega (arith, small, m.layout, size_is, digests-whole pairs s b m), omega (arith, small, m.layout, count-is, extents-whole pairs s b m))

  digest-place : (k : ℕ) → k < n → (record_in s k).digest_offset.0 ≡ digest_place s k
  unfolding record_no record_of record_fields record_for before
  digest-place k l = has-number 8 (digest_place s k) (field-has (record_fields v3 (record_written k)) 3 (lit< tt) (record-stands k l)) (places-fit k l).0

  extent-place : (k : ℕ) → k < n → ¬ ((record_in s k).flags ≡ 1) → (record_in s k).extents_offset.0 ≡ extent_place s k
  unfolding record_no record_of record_fields record_for before row_no row_of
  extent-place k l live =
      let stands = field-has (record_fields v3 (record_written k)) 4 (lit< tt) (record-stands k l) in
      has-number 8 (extent_place s k) (rw (ne_eqb (record_in s k).flags 1 live) at stands) (places-fit k l).1

  -- ---- the zeros

  zero-stands : (i : ℕ) → digests_before s n ≤ i → i < digests_size h → get_or s (digests_offset h + i) 0 ≡ 0
  unfolding digest_section
  zero-stands i l u =
      let bytes = digest_bytes (all pairs s b m) in
      let z : ℕ = lacking (length bytes) in
      let zeros : List ℕ = replicate z 0 in
      let past = has_right bytes zeros stand.digests-has in
      let used = digests-whole pairs s b m in
      let less : i - digests_before s n < z = omega (arith, size_is, section-long (all pairs s b m)) in
      let place : digests_offset h + i ≡ digests_offset written + length bytes + (i - digests_before s n) = omega (arith, at-digests) in
      ap (λ (k : ℕ). get_or s k 0) place
      ∙ stands_at zeros (i - digests_before s n) past (rw (length-replicate {A = ℕ} z 0) less)
      ∙ get_or-replicate z (i - digests_before s n) 0 0 less

  pub form-packed : IsPacked s
  form-packed = record {
    digests = digest-place;
    rounded = omega (arith, size_is, section-long (all pairs s b m), digests-whole pairs s b m);
    zeros = zero-stands;
    extents = extent-place;
    none-unused = count-is ∙ extents-whole pairs s b m;
  }
