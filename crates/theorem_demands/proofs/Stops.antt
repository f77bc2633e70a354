-- What check answers where a refusal's rule is broken and every rule before it in the order is kept: that refusal.
-- Assumes nothing.
use Prim.Native.Nat.{ℕ}
use mathlib.Core.Path.{◌≡◌, ◌∙◌}
use mathlib.Core.List.{List}
use lib.ListN.{length}
use Rattle.std.specs.Prelude.{Err}
use Rattle.answer.specs.declared.Refusal.{Refusal}
use Rattle.answer.specs.Rules.{◌then◌, first_over, accepted}
use Rattle.answer.proofs.Order.{first-refused}
use Rattle.segment.proofs.Shapes.{v3-shaped}
use Rattle.segment.specs.Format.{v3, header_of, record_count, record_at}
use Rattle.segment.specs.Keys.{fresh_key}
use Rattle.segment.specs.Check.{
  head_verdict,
  layout_verdict,
  checksum_verdict,
  record_rules,
  record_verdict,
  visibility_verdict,
  key_no,
  segment_rules,
  segment_verdict,
  checked,
}
use Rattle.key.proofs.Duplicates.{twice-refused}
use Rattle.theorem_demands.specs.Refusals.{
  record_in,
  place_in,
  UpToSize,
  UpToHeader,
  UpToLayout,
  UpToChecksum,
  UpToRecords,
  UpToVisibility,
  Reached,
  Given,
  by-table,
  by_size,
  by-magic,
  by-version,
  by-header,
  by-layout-bloom,
  by-layout-records,
  by-layout-digests,
  by-layout-extents,
  by-layout-length,
  by-checksum,
  by-marks,
  by-digest,
  by-extents,
  by_total,
  by-visibility,
  by-duplicate,
}
use Rattle.check_book.proofs.TablesHeader.{
  table-broken,
  size-book,
  size-broken,
  head-book,
  magic-broken,
  version-broken,
  header-broken,
  layout-book,
  bloom-laid-broken,
  records-laid-broken,
  digests-laid-broken,
  extents-laid-broken,
  length-laid-broken,
  checksum-book,
  checksum-broken,
}
use Rattle.check_book.proofs.TablesRecord.{marks-broken, digest-broken, extents-broken, total-broken}
use Rattle.check_book.proofs.TablesVisibility.{visibility-book, visibility-broken}
use Rattle.check_book.proofs.Book.{records-book, under_table}

module _ (pairs s : List ℕ) where
  -- ---- what check comes to, once all that is before is kept

  at-header : UpToSize pairs s → checked pairs s ≡ segment_rules v3 pairs s (header_of s)
  unfolding segment_verdict
  at-header u = under_table pairs s u.table ∙ rw ((size-book s).1 u.size)

  head-kept : UpToHeader pairs s → head_verdict v3 (header_of s) ≡ accepted
  head-kept u = (head-book v3 (header_of s)).1 (u.magic, u.version, u.header)

  layout-kept : UpToLayout pairs s → layout_verdict v3 (header_of s) (length s) ≡ accepted
  layout-kept u = (layout-book v3 v3-shaped s (header_of s)).1 u.layout

  at_records : UpToChecksum pairs s
      → checked pairs s
      ≡ (first_over (record_count (header_of s)) (record_verdict v3 pairs s (header_of s))
      then visibility_verdict v3 s (header_of s)
      then first_over (record_count (header_of s)) (fresh_key (key_no v3 s (header_of s)) (record_at v3 (header_of s))))
  unfolding segment_rules
  at_records u =
      at-header u.before.before.before ∙ rw (head-kept u.before.before, layout-kept u.before, (checksum-book s).1 u.checksum)

  records-kept : UpToRecords pairs s → first_over (record_count (header_of s)) (record_verdict v3 pairs s (header_of s)) ≡ accepted
  records-kept u = (records-book v3 pairs s (header_of s) (record_count (header_of s))).1 u.each

  pub at-keys : UpToVisibility pairs s → checked pairs s ≡ first_over (record_count (header_of s)) (fresh_key (key_no v3 s (header_of s)) (record_at v3 (header_of s)))
  at-keys u = at_records u.before.before ∙ rw (records-kept u.before, (visibility-book v3 s (header_of s)).1 u.visibility)

  -- ---- where it stops

  module _ {r : Refusal} where
    head-stops : UpToSize pairs s → head_verdict v3 (header_of s) ≡ Err r → checked pairs s ≡ Err r
    unfolding segment_rules
    head-stops u e = at-header u ∙ rw e

    layout-stops : UpToHeader pairs s → layout_verdict v3 (header_of s) (length s) ≡ Err r → checked pairs s ≡ Err r
    unfolding segment_rules
    layout-stops u e = at-header u.before ∙ rw (head-kept u, e)

    checksum-stops : UpToLayout pairs s → checksum_verdict s ≡ Err r → checked pairs s ≡ Err r
    unfolding segment_rules
    checksum-stops u e = at-header u.before.before ∙ rw (head-kept u.before, layout-kept u, e)

    record-stops : (k : ℕ) → Reached pairs s k → record_rules v3 pairs s (header_of s) (record_in s k) (place_in s k) ≡ Err r → checked pairs s ≡ Err r
    unfolding record_verdict
    record-stops k u e =
        let earlier = (records-book v3 pairs s (header_of s) k).1 u.earlier in
        let run = first-refused (record_count (header_of s)) k (record_verdict v3 pairs s (header_of s)) r u.within earlier e in
        at_records u.before ∙ rw run

    visibility-stops : UpToRecords pairs s → visibility_verdict v3 s (header_of s) ≡ Err r → checked pairs s ≡ Err r
    visibility-stops u e = at_records u.before ∙ rw (records-kept u, e)

  -- ---- each refusal

  pub given-refused : (r : Refusal) → Given pairs s r → checked pairs s ≡ Err r
  unfolding checked segment_verdict
  given-refused r (by-table e) = rw (table-broken pairs e)
  given-refused r (by_size g n) = under_table pairs s g ∙ rw (size-broken s n)
  given-refused r (by-magic u n) = head-stops u (magic-broken v3 (header_of s) n)
  given-refused r (by-version u m n) = head-stops u (version-broken v3 (header_of s) m n)
  given-refused r (by-header u m v n) = head-stops u (header-broken v3 (header_of s) m v n)
  given-refused r (by-layout-bloom u n) = layout-stops u (bloom-laid-broken v3 (length s) (header_of s) n)
  given-refused r (by-layout-records u b n) = layout-stops u (records-laid-broken v3 (length s) (header_of s) b n)
  given-refused r (by-layout-digests u b k n) = layout-stops u (digests-laid-broken v3 (length s) (header_of s) b k n)
  given-refused r (by-layout-extents u b k d n) = layout-stops u (extents-laid-broken v3 (length s) (header_of s) b k d n)
  given-refused r (by-layout-length u b k d x n) = layout-stops u (length-laid-broken v3 (length s) (header_of s) b k d x n)
  given-refused r (by-checksum u n) = checksum-stops u (checksum-broken s n)
  given-refused r (by-marks k u n) = record-stops k u (marks-broken v3 pairs s (header_of s) (record_in s k) (place_in s k) n)
  given-refused r (by-digest k u m n) = record-stops k u (digest-broken v3 pairs s (header_of s) (record_in s k) (place_in s k) m n)
  given-refused r (by-extents k u m d n) = record-stops k u (extents-broken v3 pairs s (header_of s) (record_in s k) (place_in s k) m d n)
  given-refused r (by_total k u m d x n) = record-stops k u (total-broken v3 pairs s (header_of s) (record_in s k) (place_in s k) m d x n)
  given-refused r (by-visibility u n) = visibility-stops u (visibility-broken v3 s (header_of s) n)
  given-refused r (by-duplicate k u t) =
      at-keys u ∙ twice-refused (key_no v3 s (header_of s)) (record_at v3 (header_of s)) (record_count (header_of s)) k t
