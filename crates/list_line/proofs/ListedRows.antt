-- A record's line, from the record and from its row.
-- Assumes nothing.
use Prim.Native.Nat.{ℕ, zero, suc, ◌+◌, ◌-◌, ◌≤◌, ◌<◌}
use mathlib.Core.Path.{◌≡◌, refl, sym, ap, ◌∙◌}
use mathlib.Core.Bool.{Bool, true, false, cond}
use mathlib.Core.List.{List, [], ◌∷◌, append_assoc}
use native.Mathlib.Omega.{arith}
use lib.ListN.{length, take, drop}
use Rattle.segment.specs.declared.header.Header.{Header}
use Rattle.segment.specs.declared.record.Record.{Record}
use Rattle.segment.specs.declared.extent.Extent.{Extent}
use Rattle.segment.specs.declared.shape.Shape.{Shape}
use Rattle.segment.specs.Format.{record_at, record_of, extents_at, record_count}
use Rattle.segment.specs.Check.{is_gone, sum_lengths, digest_in}
use Rattle.segment.specs.Meaning.{gone, live, row_extents, row_of, row_no}
use Rattle.check_book.specs.Readable.{Readable}
use Rattle.check_book.proofs.Rows.{record-known, is_row, own-extents, own-count}
use Rattle.list_columns.specs.Listing.{state_word, record_line}
use Rattle.list_columns.specs.Columns.{gone_word, identity_cells, standing_cells, record_cells}

-- a part is no longer than it was asked to be
pub part-short : (n : ℕ) (xs : List ℕ) → length (take n xs) ≤ n
part-short zero xs = omega arith
part-short (suc n) [] = omega arith
part-short (suc n) (x ∷ xs) = omega (arith, part-short n xs)

pub digest-short : (s : List ℕ) (at n : ℕ) → n ≤ 1024 → length (take (at + n - at) (drop at s)) ≤ 1024
digest-short s at n h = omega (arith, part-short (at + n - at) (drop at s))

-- ---- a record's line, from the record and from its row

state-word : (b : Bool) (es : List Extent) → gone_word b ≡ state_word (cond b gone (live es))
state-word true es = refl
state-word false es = refl

line_of : (k : ℕ) (q : Record) (s : List ℕ) → sum_lengths (row_extents (row_of s q)) ≡ q.total_length → length (row_extents (row_of s q)) ≡ q.extent_count
    → record_cells k q (digest_in s q) ≡ record_line k (row_of s q)
unfolding record_cells identity_cells standing_cells record_line row_of
line_of k q s t n =
    rw (t, n, ← state-word (is_gone q) (extents_at s q.extents_offset.0 q.extent_count)) (simp append_assoc)

-- ---- a record that was read

module _ (sh : Shape) (s : List ℕ) (h : Header) (v : Readable sh s h) (k : ℕ) (l : k < record_count h) (r : Record) (e : r ≡ record_of sh s (record_at sh h k)) where
  pub record-line : (stop : ℕ) → stop ≡ r.digest_offset.0 + r.digest_length
      → record_cells k r (take (stop - r.digest_offset.0) (drop r.digest_offset.0 s)) ≡ record_line k (row_no sh s h k)
  unfolding digest_in
  record-line stop p =
      let n : stop - r.digest_offset.0 ≡ r.digest_length = omega arith in
      rw n (line_of k r s (ap sum_lengths (own-extents sh s h v k l r e) ∙ sym (record-known sh s h v k l r e).total) (own-count sh s h v k l r e)) ∙ ap (record_line k) (is_row sh s h v k l r e)
