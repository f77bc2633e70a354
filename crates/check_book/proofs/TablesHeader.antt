-- The tables of 14, 1 to 4, 51 to 55 and 6 and their rules: each accepts exactly when its rules are kept, and where they are broken it gives its refusal.
-- Assumes nothing.
use Prim.Native.Nat.{ℕ, ◌%◌}
use mathlib.Core.Path.{◌≡◌}
use mathlib.Core.Bool.{true, false}
use mathlib.Core.Logic.Iff
use mathlib.Core.Logic.{◌↔◌, by_cases}
use mathlib.Core.List.{List}
use native.Mathlib.Decide.{ℕ_discrete}
use native.Mathlib.Omega.{arith}
use borrow.Author.Tests.{eq-eqb, ne_eqb}
use lib.ListN.{length}
use Rattle.std.specs.Prelude.{Err}
use Rattle.answer.specs.Rules.{accepted}
use Rattle.answer.specs.declared.Rule.TheVariants.{
  Size,
  Magic,
  Version,
  Header as HeaderWrong,
  LayoutBloom,
  LayoutRecords,
  LayoutDigests,
  LayoutExtents,
  LayoutLength,
  Checksum,
  Table,
}
use Rattle.answer.specs.Answers.{refusal}
use Rattle.lists.proofs.Tests.{tests}
use Rattle.answer.proofs.Order.{rows, then-accepted}
use Rattle.segment.specs.declared.header.Header.{Header}
use Rattle.segment.specs.declared.shape.Shape.{Shape}
use Rattle.segment.specs.Format.{record_count, bloom_offset, bloom_size}
use Rattle.segment.specs.Shapes.{Shaped}
use Rattle.table.specs.Table.{good_table, table_verdict}
use Rattle.segment.specs.Check.{size_verdict, head_verdict, bloom_place, bloom_laid, records_laid, digests_laid, extents_laid, length_laid, layout_verdict, checksum_verdict}
use Rattle.segment.proofs.Shapes.{shaped-divides}
use Rattle.segment.specs.Meets.{SizeMeets, HeaderMeets, LayoutMeets, ChecksumMeets}
use Rattle.check_book.specs.Layout.{BloomLaid, RecordsLaid, DigestsLaid, ExtentsLaid, LengthLaid}
use Rattle.check_book.proofs.OneRefusal.{Only, only-rows, broken}

-- ---- 14

pub table-book : (pairs : List ℕ) → table_verdict pairs ≡ accepted ↔ good_table pairs ≡ true
unfolding table_verdict
table-book pairs = simp rows Iff.rfl

pub table-broken : (pairs : List ℕ) → good_table pairs ≡ false → table_verdict pairs ≡ Err (refusal Table 0)
unfolding table_verdict
table-broken pairs e = rw e

-- ---- 1

pub size-book : (s : List ℕ) → size_verdict (length s) ≡ accepted ↔ SizeMeets s
unfolding size_verdict
size-book s = simp rows (omega arith)

pub size-broken : (s : List ℕ) → ¬ SizeMeets s → size_verdict (length s) ≡ Err (refusal Size 0)
unfolding size_verdict
size-broken s = broken (search only-rows) (size-book s)

-- ---- 2, 3 and 4

module _ (sh : Shape) (h : Header) where
  pub head-book : head_verdict sh h ≡ accepted ↔ (h.magic ≡ sh.magic) × (h.version ≡ sh.version) × HeaderMeets h
  unfolding head_verdict
  head-book = simp rows (omega arith)

  pub magic-broken : ¬ (h.magic ≡ sh.magic) → head_verdict sh h ≡ Err (refusal Magic 0)
  unfolding head_verdict
  magic-broken n = simp tests

  module _ (m : h.magic ≡ sh.magic) where
    pub version-broken : ¬ (h.version ≡ sh.version) → head_verdict sh h ≡ Err (refusal Version 0)
    unfolding head_verdict
    version-broken n = simp tests

    module _ (v : h.version ≡ sh.version) where
      pub header-book : head_verdict sh h ≡ accepted ↔ HeaderMeets h
      header-book = (λ e. (head-book.0 e).2, λ k. head-book.1 (m, v, k))

      pub header-broken : ¬ HeaderMeets h → head_verdict sh h ≡ Err (refusal HeaderWrong 0)
      unfolding head_verdict
      header-broken = broken (simp (eq-eqb _ _ m, eq-eqb _ _ v) (search only-rows depth 9)) header-book

-- ---- 51 to 55

module _ (h : Header) where
  -- `bloom_place` says both cases of the offset
  pub bloom-laid-starts : BloomLaid h ↔ (bloom_offset h ≡ bloom_place (bloom_size h)) × (bloom_size h % 8 ≡ 0)
  bloom-laid-starts =
      by_cases (ℕ_discrete (bloom_size h) 0)
      (λ (z : bloom_size h ≡ 0).
      rw (eq-eqb (bloom_size h) 0 z) (λ m. (m.none z, m.divides), λ (a : (bloom_offset h ≡ 0) × (bloom_size h % 8 ≡ 0)). record { none = λ e. a.0; some = λ n. absurd (n z); divides = a.1 }))
      (λ (z : ¬ (bloom_size h ≡ 0)).
      rw (ne_eqb (bloom_size h) 0 z) (λ m. (m.some z, m.divides), λ (a : (bloom_offset h ≡ 112) × (bloom_size h % 8 ≡ 0)). record { none = λ e. absurd (z e); some = λ n. a.0; divides = a.1 }))

  pub bloom-laid-book : bloom_laid h ≡ accepted ↔ BloomLaid h
  unfolding bloom_laid
  bloom-laid-book = simp rows (bloom-laid-starts.1, bloom-laid-starts.0)

  bloom-laid-only : Only (refusal LayoutBloom 48) (bloom_laid h)
  unfolding bloom_laid
  bloom-laid-only = search only-rows

  pub records-laid-book : records_laid h ≡ accepted ↔ RecordsLaid h
  unfolding records_laid
  records-laid-book = simp rows (omega arith)

  records-laid-only : Only (refusal LayoutRecords 32) (records_laid h)
  unfolding records_laid
  records-laid-only = search only-rows

  pub digests-laid-book : (sh : Shape) → digests_laid sh h ≡ accepted ↔ DigestsLaid sh h
  unfolding digests_laid
  digests-laid-book sh = simp rows (omega arith)

  digests-laid-only : (sh : Shape) → Only (refusal LayoutDigests 64) (digests_laid sh h)
  unfolding digests_laid
  digests-laid-only sh = search only-rows

  pub extents-laid-book : extents_laid h ≡ accepted ↔ ExtentsLaid h
  unfolding extents_laid
  extents-laid-book = simp rows Iff.rfl

  extents-laid-only : Only (refusal LayoutExtents 80) (extents_laid h)
  unfolding extents_laid
  extents-laid-only = search only-rows

  pub length-laid-book : (n : ℕ) → length_laid h n ≡ accepted ↔ LengthLaid n h
  unfolding length_laid
  length-laid-book n = simp rows Iff.rfl

  length-laid-only : (n : ℕ) → Only (refusal LayoutLength 88) (length_laid h n)
  unfolding length_laid
  length-laid-only n = search only-rows

-- each is given where the rules before it are kept
module _ (sh : Shape) (n : ℕ) (h : Header) where
  pub bloom-laid-broken : ¬ BloomLaid h → layout_verdict sh h n ≡ Err (refusal LayoutBloom 48)
  unfolding layout_verdict
  bloom-laid-broken c = rw (broken (bloom-laid-only h) (bloom-laid-book h) c)

  module _ (b : BloomLaid h) where
    pub records-laid-broken : ¬ RecordsLaid h → layout_verdict sh h n ≡ Err (refusal LayoutRecords 32)
    unfolding layout_verdict
    records-laid-broken c = rw ((bloom-laid-book h).1 b, broken (records-laid-only h) (records-laid-book h) c)

    module _ (r : RecordsLaid h) where
      pub digests-laid-broken : ¬ DigestsLaid sh h → layout_verdict sh h n ≡ Err (refusal LayoutDigests 64)
      unfolding layout_verdict
      digests-laid-broken c = rw ((bloom-laid-book h).1 b, (records-laid-book h).1 r, broken (digests-laid-only h sh) (digests-laid-book h sh) c)

      module _ (d : DigestsLaid sh h) where
        pub extents-laid-broken : ¬ ExtentsLaid h → layout_verdict sh h n ≡ Err (refusal LayoutExtents 80)
        unfolding layout_verdict
        extents-laid-broken c =
            rw ((bloom-laid-book h).1 b, (records-laid-book h).1 r, (digests-laid-book h sh).1 d, broken (extents-laid-only h) (extents-laid-book h) c)

        pub length-laid-broken : ExtentsLaid h → ¬ LengthLaid n h → layout_verdict sh h n ≡ Err (refusal LayoutLength 88)
        unfolding layout_verdict
        length-laid-broken x c = rw (
          (bloom-laid-book h).1 b,
          (records-laid-book h).1 r,
          (digests-laid-book h sh).1 d,
          (extents-laid-book h).1 x,
          broken (length-laid-only h n) (length-laid-book h n) c,
        )

        pub all_laid : ExtentsLaid h → LengthLaid n h → layout_verdict sh h n ≡ accepted
        unfolding layout_verdict
        all_laid x l =
            rw ((bloom-laid-book h).1 b, (records-laid-book h).1 r, (digests-laid-book h sh).1 d, (extents-laid-book h).1 x, (length-laid-book h n).1 l)

-- all five are the rule book's. The tables ask of the two sizes that 8 divides them, the rule book of every section's offset
module _ (sh : Shape) (w : Shaped sh) (s : List ℕ) (h : Header) where
  pub laid-meets : BloomLaid h → RecordsLaid h → DigestsLaid sh h → ExtentsLaid h → LengthLaid (length s) h → LayoutMeets sh s h
  laid-meets b r d x n =
      let whole = shaped-divides sh w (record_count h) in
      record {
        no_bloom = b.none;
        bloom = b.some;
        few = r.few;
        records = r.starts;
        digests = d.starts;
        extents = x;
        file = n;
        bloom_divides = by_cases (ℕ_discrete (bloom_size h) 0) (λ z. omega (arith, b.none z)) (λ z. omega (arith, b.some z));
        records_divide = omega arith;
        digests_divide = omega arith;
        extents_divide = omega arith;
      }

  meets-laid : LayoutMeets sh s h → BloomLaid h × (RecordsLaid h × (DigestsLaid sh h × (ExtentsLaid h × LengthLaid (length s) h)))
  meets-laid m = (
    record { none = m.no_bloom; some = m.bloom; divides = omega (arith, m.records, m.records_divide) },
    (
      record { few = m.few; starts = m.records },
      (record { starts = m.digests; divides = omega (arith, m.extents, m.digests_divide, m.extents_divide) }, (m.extents, m.file)),
    ),
  )

  pub layout-book : layout_verdict sh h (length s) ≡ accepted ↔ LayoutMeets sh s h
  unfolding layout_verdict
  layout-book =
      simp (then-accepted, bloom-laid-book, records-laid-book, digests-laid-book, extents-laid-book, length-laid-book)
      (λ a. laid-meets a.0 a.1.0 a.1.1.0 a.1.1.1.0 a.1.1.1.1, meets-laid)

-- ---- 6

pub checksum-book : (s : List ℕ) → checksum_verdict s ≡ accepted ↔ ChecksumMeets s
unfolding checksum_verdict
checksum-book s = simp rows Iff.rfl

pub checksum-broken : (s : List ℕ) → ¬ ChecksumMeets s → checksum_verdict s ≡ Err (refusal Checksum 0)
unfolding checksum_verdict
checksum-broken s = broken (search only-rows) (checksum-book s)
