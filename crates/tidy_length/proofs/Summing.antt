-- The sums over the records, and that they tell the length of the tidy form.
-- Assumes nothing.
use Prim.Native.Nat.{ℕ, ◌+◌, ◌*◌, ◌≤◌, ◌<◌}
use mathlib.Core.Path.{◌≡◌, sym, ap, ◌∙◌}
use mathlib.Core.Bool.{true, false}
use mathlib.Core.List.{List, ◌∷◌}
use native.Mathlib.Numerals.{add-one}
use native.Mathlib.Omega.{arith}
use lib.ListN.{length, take, drop, length-append, length-drop}
use lib.Seq.{length-take-le}
use Rattle.std.specs.Prelude.{Err, Ok}
use Rattle.answer.specs.Rules.{accepted}
use Rattle.answer.specs.declared.Refusal.{Refusal}
use Rattle.answer.specs.declared.Rule.TheVariants.{Large, Table as TableWrong}
use Rattle.answer.specs.Answers.{refusal, written_answer, Written}
use Rattle.lists.proofs.Tests.{tests}
use Rattle.table.specs.Table.{good_table, table_verdict}
use Rattle.segment.specs.declared.header.Header.{Header}
use Rattle.segment.specs.declared.record.Record.{Record}
use Rattle.segment.specs.declared.shape.Shape.{Shape}
use Rattle.segment.specs.Format.{v3, header_of, record_at, record_of, record_count, bloom_size, digests_offset}
use Rattle.segment.specs.Check.{segment_verdict, checked}
use Rattle.segment.specs.Meaning.{Row, rows_of, row_no, meaning_of}
use Rattle.segment.specs.Tidy.{digest_bytes, lacking, digest_section, extent_total, tidy_form, tidy_sized, tidy_length_of}
use Rattle.form_laws.proofs.Sizes.{section-long}
use Rattle.form_laws.proofs.SortedForm.{tidy-length}
use Rattle.check_book.specs.Readable.{Readable}
use Rattle.check_book.proofs.Rows.{rows_long, rows-past, rows-here, record-known, few-extents, record-count, record-digest}
use Rattle.tidy_length.specs.declared.Sums.{Sums}
use Rattle.tidy_length.specs.Sums.{Summed, sized_under}

-- k records are summed up
pub record Summing (sh : Shape) (s : List ℕ) (h : Header) (k d x : ℕ) : Type 0 where
  pub within : k ≤ record_count h
  pub short : d ≤ 1024 * k
  pub few : x ≤ 4294967296 * k
  pub digests : length (digest_bytes (rows_of sh s h)) ≡ d + length (digest_bytes (drop k (rows_of sh s h)))
  pub extents : extent_total (rows_of sh s h) ≡ x + extent_total (drop k (rows_of sh s h))

pub summing_start : (sh : Shape) (s : List ℕ) (h : Header) → Summing sh s h 0 0 0
summing_start sh s h = record { within = omega arith; short = omega arith; few = omega arith; digests = omega arith; extents = omega arith }

module _ (sh : Shape) (s : List ℕ) (h : Header) (v : Readable sh s h) (k d x : ℕ) (g : Summing sh s h k d x) where
  module _ (l : k < record_count h) (r : Record) (e : r ≡ record_of sh s (record_at sh h k)) where
    pub next_small : (r.digest_length ≤ 1024) × (r.extent_count < 4294967296)
    next_small = ((record-known sh s h v k l r e).short, few-extents sh s h v k l r e)

    pub summing-more : Summing sh s h (k + 1) (d + r.digest_length) (x + r.extent_count)
    unfolding digest_bytes extent_total
    summing-more =
        let small = next_small in
        let there : List Row = drop (k + 1) (rows_of sh s h) in
        let rows : drop k (rows_of sh s h) ≡ row_no sh s h k ∷ drop (k + 1) (rows_of sh s h) = rw add-one (rows-here sh s h k l) in
        let a : length (digest_bytes (drop k (rows_of sh s h))) ≡ r.digest_length + length (digest_bytes there) =
        ap (λ (q : List Row). length (digest_bytes q)) rows ∙ length-append (row_no sh s h k).key.digest (digest_bytes there) ∙ rw (record-digest sh s h v k l r e) in
        let b : extent_total (drop k (rows_of sh s h)) ≡ r.extent_count + extent_total there =
        ap extent_total rows ∙ rw (record-count sh s h v k l r e) in
        record {
          within = omega arith;
          short = omega (arith, g.short);
          few = omega (arith, g.few);
          digests = omega (arith, g.digests, a);
          extents = omega (arith, g.extents, b);
        }

  pub summing-done : record_count h ≤ k → Summed sh s h (record { digests = d; extents = x })
  unfolding digest_bytes extent_total
  summing-done l =
      let a : length (digest_bytes (drop k (rows_of sh s h))) ≡ 0 = ap (λ (q : List Row). length (digest_bytes q)) (rows-past sh s h k l) in
      let b : extent_total (drop k (rows_of sh s h)) ≡ 0 = ap extent_total (rows-past sh s h k l) in
      record {
        digests = omega (arith, g.digests, a);
        extents = omega (arith, g.extents, b);
        short = omega (arith, g.short, g.within, v.laid.layout.few);
        few = omega (arith, g.few, g.within, v.laid.layout.few);
      }

-- ---- the length

pub length-told : (sh : Shape) (s : List ℕ) (h : Header) → Readable sh s h → (r : Sums) → Summed sh s h r
    → (p : ℕ) → p ≡ r.digests + lacking r.digests → digests_offset h + p + 16 * r.extents + 24 ≡ length (tidy_form sh (meaning_of sh s))
unfolding meaning_of
length-told sh s h v r g p q =
    let e = v.header in
    let long = tidy-length sh (meaning_of sh s) v.laid.shaped in
    let y = v.laid.layout in
    let bloom : length (take (bloom_size (header_of s)) (drop 112 s)) ≡ bloom_size (header_of s) =
    length-take-le (bloom_size (header_of s)) (drop 112 s) (simp length-drop (rw (← e) (omega (arith, y)))) in
    let same : rows_of sh s (header_of s) ≡ rows_of sh s h = ap (rows_of sh s) (sym e) in
    let size : bloom_size (header_of s) ≡ bloom_size h = ap (λ (z : Header). bloom_size z) (sym e) in
    let rows : sh.record_size * length (rows_of sh s (header_of s)) ≡ sh.record_size * record_count h =
    ap (λ (n : ℕ). sh.record_size * n) (ap length same ∙ rows_long sh s h) in
    let section : length (digest_section (rows_of sh s (header_of s))) ≡ p =
    ap (λ (z : List Row). length (digest_section z)) same ∙ section-long (rows_of sh s h) ∙ sym (q ∙ ap (λ (n : ℕ). n + lacking n) g.digests) in
    let extents : extent_total (rows_of sh s (header_of s)) ≡ r.extents = ap extent_total same ∙ sym g.extents in
    sym (long ∙ omega (arith, bloom, size, rows, section, extents, y.records, y.digests))

-- ---- the answers

module _ (pairs s : List ℕ) where
  pub sized-stop : (x : Refusal) → segment_verdict v3 pairs s ≡ Err x → Err x ≡ sized_under pairs s
  unfolding sized_under
  sized-stop x e = rw e

  module _ (a : segment_verdict v3 pairs s ≡ accepted) (n : ℕ) (e : n ≡ length (tidy_form v3 (meaning_of v3 s))) where
    pub sized-large : 1073741824 < n → Err (refusal Large 0) ≡ sized_under pairs s
    unfolding sized_under
    sized-large l = rw (a, ← e) (simp tests)

    pub sized-done : n ≤ 1073741824 → Ok n ≡ sized_under pairs s
    unfolding sized_under
    sized-done l = rw (a, ← e) (simp tests)

  pub table-bad : good_table pairs ≡ false → written_answer (Err (refusal TableWrong 0)) ≡ tidy_length_of pairs s
  unfolding tidy_length_of tidy_sized checked table_verdict
  table-bad e = rw e

  pub table-good : (part : List ℕ) {w : Written} → good_table pairs ≡ true → part ≡ pairs → w ≡ sized_under part s → written_answer w ≡ tidy_length_of pairs s
  unfolding tidy_length_of tidy_sized checked table_verdict sized_under
  table-good part e p f = rw e (ap written_answer (f ∙ ap (λ (q : List ℕ). sized_under q s) p))
