-- The rows of a segment that can be read: one for each record, in the file's order, and what a record that was read says of its row.
-- Assumes nothing.
use Prim.Native.Nat.{ℕ, zero, suc, ◌+◌, ◌≤◌, ◌<◌}
use mathlib.Core.Path.{◌≡◌, sym, ap, subst, ◌∙◌}
use mathlib.Core.List.{List, [], ◌∷◌, map}
use native.Mathlib.Nat.{not-suc-le-zero}
use native.Mathlib.Omega.{arith}
use lib.ListN.{length, drop, length-drop, drop_of_length-le}
use lib.Seq.{length-take-le}
use Rattle.segment.specs.declared.header.Header.{Header}
use Rattle.segment.specs.declared.record.Record.{Record}
use Rattle.segment.specs.declared.shape.Shape.{Shape}
use Rattle.segment.specs.Format.{record_at, record_of, record_no, extents_in, record_count}
use Rattle.segment.specs.Check.{digest_in}
use Rattle.segment.specs.Meaning.{Row, row_extents, row_of, row_no, rows_of}
use Rattle.lists.specs.Lists.{count_from}
use Rattle.lists.proofs.Counted.{counted-long}
use Rattle.segment.proofs.Extents.{extents-counted, row-extents}
use Rattle.check_book.specs.Readable.{RecordReadable, Readable}

-- ---- the rows

counted-here : {A : Type 0} (f : ℕ → A) (k a n : ℕ) → k < n → drop k (map f (count_from a n)) ≡ f (a + k) ∷ drop (suc k) (map f (count_from a n))
unfolding count_from
counted-here f k a zero l = absurd (not-suc-le-zero l)
counted-here f zero a (suc n) l = ap (λ (i : ℕ). f i ∷ map f (count_from (suc a) n)) (omega arith)
counted-here f (suc k) a (suc n) l =
    counted-here f k (suc a) n (omega arith) ∙ ap (λ (i : ℕ). f i ∷ drop (suc k) (map f (count_from (suc a) n))) (omega arith)

module _ (sh : Shape) (s : List ℕ) (h : Header) where
  pub rows_long : length (rows_of sh s h) ≡ record_count h
  unfolding rows_of
  rows_long = counted-long (row_no sh s h) 0 (record_count h)

  pub rows-past : (k : ℕ) → record_count h ≤ k → drop k (rows_of sh s h) ≡ []
  rows-past k l = drop_of_length-le (rows_of sh s h) {i = k} (omega (arith, rows_long))

  pub rows-here : (k : ℕ) → k < record_count h → drop k (rows_of sh s h) ≡ row_no sh s h k ∷ drop (suc k) (rows_of sh s h)
  unfolding rows_of
  rows-here k l = counted-here (row_no sh s h) k 0 (record_count h) l ∙ ap (λ (i : ℕ). row_no sh s h i ∷ drop (suc k) (map (row_no sh s h) (count_from 0 (record_count h)))) (omega arith)

-- ---- a record that was read

module _ (sh : Shape) (s : List ℕ) (h : Header) (v : Readable sh s h) (k : ℕ) (l : k < record_count h) where
  module _ (r : Record) (e : r ≡ record_of sh s (record_at sh h k)) where
    pub record-known : RecordReadable sh s h r
    unfolding record_no
    record-known = subst (RecordReadable sh s h) (sym e) (v.each k l)

    pub few-extents : r.extent_count < 4294967296
    few-extents = omega (arith, record-known.extents, v.laid.most)

    pub is_row : row_of s r ≡ row_no sh s h k
    unfolding row_no record_no
    is_row = ap (row_of s) e

    pub own-extents : row_extents (row_of s r) ≡ extents_in s r
    own-extents = row-extents s r record-known.none

    pub own-count : length (row_extents (row_of s r)) ≡ r.extent_count
    own-count = ap length own-extents ∙ extents-counted s r.extents_offset.0 r.extent_count

    pub record-extents : row_extents (row_no sh s h k) ≡ extents_in s r
    record-extents = ap row_extents (sym is_row) ∙ own-extents

    pub record-count : length (row_extents (row_no sh s h k)) ≡ r.extent_count
    record-count = ap (λ (w : Row). length (row_extents w)) (sym is_row) ∙ own-count

    pub record-digest : length (row_no sh s h k).key.digest ≡ r.digest_length
    unfolding row_no row_of digest_in record_no
    record-digest =
        rw (← e) (length-take-le r.digest_length (drop r.digest_offset.0 s) (simp length-drop (omega (arith, record-known.digest))))
