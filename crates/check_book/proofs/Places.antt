-- Where check refuses: at 0, at a field of the header, or where a record begins that is there.
-- Assumes nothing.
use Prim.Native.Nat.{ℕ, ◌≤◌, ◌<◌}
use mathlib.Core.Path.{◌≡◌}
use mathlib.Core.List.{List}
use native.Mathlib.Omega.{arith}
use lib.ListN.{length}
use Rattle.answer.specs.Rules.{◌then◌, accepted}
use Rattle.answer.proofs.Places.{Placed, placed-then, placed-after, placed_first, placed-rows}
use Rattle.table.specs.Table.{table_verdict}
use Rattle.segment.specs.declared.header.Header.{Header}
use Rattle.segment.specs.declared.record.Record.{Record}
use Rattle.segment.specs.declared.shape.Shape.{Shape}
use Rattle.segment.specs.Format.{header_size, file_limit, header_of, record_count, record_at, record_no}
use Rattle.segment.specs.Shapes.{Shaped}
use Rattle.segment.proofs.Shapes.{shaped-least}
use Rattle.key.proofs.Duplicates.{fresh-placed}
use Rattle.segment.specs.Check.{
  size_verdict,
  head_verdict,
  bloom_laid,
  records_laid,
  digests_laid,
  extents_laid,
  length_laid,
  layout_verdict,
  checksum_verdict,
  marks_verdict,
  digest_verdict,
  gone_extents,
  live_extents,
  extents_verdict,
  live_total,
  total_verdict,
  record_rules,
  record_verdict,
  visibility_verdict,
  key_no,
  segment_rules,
  segment_verdict,
}
use Rattle.check_book.proofs.TablesHeader.{size-book, layout-book}
use Rattle.check_book.proofs.Readable.{record-inside}

module _ {b : ℕ} (z : 0 < b) where
  pub table-placed : (pairs : List ℕ) → Placed b (table_verdict pairs)
  unfolding table_verdict
  table-placed pairs = search placed-rows

  size-placed : (n : ℕ) → Placed b (size_verdict n)
  unfolding size_verdict
  size-placed n = search placed-rows

  head-placed : (sh : Shape) (h : Header) → Placed b (head_verdict sh h)
  unfolding head_verdict
  head-placed sh h = search placed-rows depth 9

  checksum-placed : (s : List ℕ) → Placed b (checksum_verdict s)
  unfolding checksum_verdict
  checksum-placed s = search placed-rows

  visibility-placed : (sh : Shape) (s : List ℕ) (h : Header) → Placed b (visibility_verdict sh s h)
  unfolding visibility_verdict
  visibility-placed sh s h = search placed-rows

-- a layout rule refuses at its fields, which lie in the header
layout-placed : {b : ℕ} → header_size ≤ b → (sh : Shape) (h : Header) (n : ℕ) → Placed b (layout_verdict sh h n)
unfolding layout_verdict bloom_laid records_laid digests_laid extents_laid length_laid
layout-placed {b} l sh h n =
    let bloom : 48 < b = omega arith in
    let records : 32 < b = omega arith in
    let digests : 64 < b = omega arith in
    let extents : 80 < b = omega arith in
    let count : 88 < b = omega arith in
    search placed-rows depth 10

module _ {b : ℕ} (sh : Shape) (pairs s : List ℕ) (h : Header) (r : Record) (p : ℕ) (l : p < b) where
  marks-placed : Placed b (marks_verdict h r p)
  unfolding marks_verdict
  marks-placed = search placed-rows depth 9

  digest-placed : Placed b (digest_verdict pairs h r p)
  unfolding digest_verdict
  digest-placed = search placed-rows

  extents-placed : Placed b (extents_verdict h r p)
  unfolding extents_verdict gone_extents live_extents
  extents-placed = search placed-rows depth 7

  total-placed : Placed b (total_verdict sh s r p)
  unfolding total_verdict live_total
  total-placed = search placed-rows depth 6

  record-placed : Placed b (record_rules sh pairs s h r p)
  unfolding record_rules
  record-placed = placed-then marks-placed (placed-then digest-placed (placed-then extents-placed total-placed))

-- a record of a segment that is sized and laid out begins inside it
record-below : {b : ℕ} → file_limit ≤ b → (sh : Shape) → Shaped sh → (s : List ℕ) → size_verdict (length s) ≡ accepted
    → layout_verdict sh (header_of s) (length s) ≡ accepted → (k : ℕ) → k < record_count (header_of s) → record_at sh (header_of s) k < b
record-below l sh w s sized laid k i =
    let most = ((size-book s).0 sized).most in
    let here = record-inside (record { shaped = w; layout = (layout-book sh w s (header_of s)).0 laid; most = most }) k i in
    omega (arith, shaped-least sh w)

-- so every place is below the length of the largest file
pub segment-placed : {b : ℕ} → file_limit ≤ b → (sh : Shape) → Shaped sh → (pairs s : List ℕ) → Placed b (segment_verdict sh pairs s)
unfolding segment_verdict segment_rules record_verdict
segment-placed {b} l sh w pairs s =
    let h : Header = header_of s in
    let z : 0 < b = omega arith in
    placed-after _ (size-placed z (length s)) (λ sized.
    placed-then (head-placed z sh h)
    (placed-after _ (layout-placed (omega arith) sh h (length s)) (λ laid.
    let within = record-below l sh w s sized laid in
    placed-then (checksum-placed z s)
    (placed-then (placed_first (record_count h) _ (λ k i. record-placed sh pairs s h (record_no sh s h k) (record_at sh h k) (within k i)))
    (placed-then (visibility-placed z sh s h)
    (placed_first (record_count h) _ (λ k i. fresh-placed (key_no sh s h) (record_at sh h) k (within k i))))))))
