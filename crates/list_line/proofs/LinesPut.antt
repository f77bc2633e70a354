-- What each function that puts a piece leaves, and the count of the extents.
-- Assumes nothing.
use Prim.Native.Nat.{ℕ, ◌+◌, ◌-◌, ◌*◌, ◌≤◌, ◌<◌}
use mathlib.Core.Path.{◌≡◌, refl, sym, ap, subst, ◌∙◌}
use mathlib.Core.List.{List, []}
use native.Mathlib.Numerals.{add-one}
use native.Mathlib.Omega.{arith}
use lib.ListN.{length, take, drop}
use Rattle.segment.specs.declared.header.Header.{Header}
use Rattle.segment.specs.declared.record.Record.{Record}
use Rattle.segment.specs.declared.extent.Extent.{Extent}
use Rattle.segment.specs.declared.shape.Shape.{Shape}
use Rattle.segment.specs.Format.{header_of, record_at, record_of, extent_of, record_count}
use Rattle.segment.specs.Meaning.{row_extents, row_no, rows_of, meaning_of}
use Rattle.segment.specs.Tidy.{extent_total}
use Rattle.segment.specs.Listing.{extents_listed}
use Rattle.check_book.specs.Readable.{Readable}
use Rattle.list_digits.specs.declared.Text.{Text}
use Rattle.list_digits.specs.Digits.{ascii, Room, Puts}
use Rattle.list_digits.proofs.TextLaws.{puts_as, puts_none}
use Rattle.list_columns.specs.Listing.{count_line, extent_line}
use Rattle.list_columns.specs.Columns.{record_cells}
use Rattle.list_place.specs.declared.Place.{Place}
use Rattle.list_place.specs.declared.Place.TheVariants.{RecordCount, RecordLine, ExtentCount, ExtentLine, Done}
use Rattle.list_place.specs.Pieces.{Piece, piece, record_piece, extent_piece, row_piece, piece_at, longest_line}
use Rattle.list_line.specs.PutsPiece.{PutsPiece}
use Rattle.check_book.proofs.Rows.{rows_long, rows-past, rows-here, few-extents, record-extents, record-count}
use Rattle.list_line.proofs.ListedRows.{record-line}
use Rattle.segment.proofs.Extents.{extents-past, extents-here}

-- a piece by another name
as-piece : {p q : Piece} {s t : Text} {n : Place} → PutsPiece p s t n → p ≡ q → PutsPiece q s t n
as-piece {s = s} {t = t} {n = n} v e = subst (λ (x : Piece). PutsPiece x s t n) e v

-- nothing is put, and the listing goes on elsewhere
stays : (p : Place) {t : Text} → Room longest_line t → PutsPiece (piece [] p) t t p
stays p {t} h = record { put = puts_none 2169 t (omega (arith, h)); next = refl }

puts : {text : List ℕ} (p : Place) {s t : Text} → Puts longest_line s text t → PutsPiece (piece text p) s t p
puts p a = record { put = a; next = refl }

-- ---- a record's line

module _ (sh : Shape) (s : List ℕ) (h : Header) (k : ℕ) (old : Text) where
  pub record-past : record_count h ≤ k → Room longest_line old → PutsPiece (record_piece k (drop k (rows_of sh s h))) old old ExtentCount
  unfolding record_piece
  record-past l r = as-piece (stays ExtentCount r) (sym (ap (record_piece k) (rows-past sh s h k l)))

  module _ (v : Readable sh s h) (l : k < record_count h) (r : Record) (e : r ≡ record_of sh s (record_at sh h k)) (new : Text) where
    pub record-put : (stop : ℕ) → stop ≡ r.digest_offset.0 + r.digest_length
        → Puts longest_line old (record_cells k r (take (stop - r.digest_offset.0) (drop r.digest_offset.0 s))) new
        → PutsPiece (record_piece k (drop k (rows_of sh s h))) old new (RecordLine (k + 1))
    unfolding record_piece
    record-put stop p a =
        as-piece (puts (RecordLine (k + 1)) (puts_as a (record-line sh s h v k l r e stop p) (omega arith)))
        (sym (ap (record_piece k) (rows-here sh s h k l)))

-- ---- an extent's line

module _ (sh : Shape) (s : List ℕ) (h : Header) (k j : ℕ) (old : Text) where
  pub extents-done : record_count h ≤ k → Room longest_line old → PutsPiece (row_piece k j (drop k (rows_of sh s h))) old old Done
  unfolding row_piece
  extents-done l r = as-piece (stays Done r) (sym (ap (row_piece k j) (rows-past sh s h k l)))

  module _ (v : Readable sh s h) (l : k < record_count h) (r : Record) (e : r ≡ record_of sh s (record_at sh h k)) where
    here : extent_piece k j (drop j (row_extents (row_no sh s h k))) ≡ row_piece k j (drop k (rows_of sh s h))
    unfolding row_piece
    here = sym (ap (row_piece k j) (rows-here sh s h k l))

    pub extent-past : r.extent_count ≤ j → Room longest_line old
        → PutsPiece (row_piece k j (drop k (rows_of sh s h))) old old (ExtentLine (k + 1) 0)
    unfolding extent_piece
    extent-past n room =
        as-piece (stays (ExtentLine (k + 1) 0) room)
        (sym (ap (extent_piece k j) (ap (drop j) (record-extents sh s h v k l r e) ∙ extents-past s r.extents_offset.0 r.extent_count j n)) ∙ here)

    pub extent-put : (x : Extent) (new : Text) → j < r.extent_count → x ≡ extent_of s (r.extents_offset.0 + 16 * j)
        → Puts 105 old (extent_line k j x) new → PutsPiece (row_piece k j (drop k (rows_of sh s h))) old new (ExtentLine k (j + 1))
    unfolding extent_piece
    extent-put x new n q a =
        as-piece (puts (ExtentLine k (j + 1)) (puts_as a (ap (extent_line k j) q) (omega arith)))
        (sym (ap (extent_piece k j) (ap (drop j) (record-extents sh s h v k l r e) ∙ extents-here s r.extents_offset.0 r.extent_count j n)) ∙ here)

-- ---- the count of the extents

-- the extents of k records are counted
pub record Counting (sh : Shape) (s : List ℕ) (h : Header) (k sum : ℕ) : Type 0 where
  pub within : k ≤ record_count h
  pub small : sum ≤ 4294967296 * k
  pub whole : extent_total (rows_of sh s h) ≡ sum + extent_total (drop k (rows_of sh s h))

module _ (sh : Shape) (s : List ℕ) (h : Header) where
  module _ (v : Readable sh s h) (k sum : ℕ) (c : Counting sh s h k sum) where
    pub counting_more : (l : k < record_count h) (r : Record) → r ≡ record_of sh s (record_at sh h k) → Counting sh s h (k + 1) (sum + r.extent_count)
    unfolding extent_total
    counting_more l r e =
        let n = few-extents sh s h v k l r e in
        let t : extent_total (drop k (rows_of sh s h)) ≡ r.extent_count + extent_total (drop (k + 1) (rows_of sh s h)) =
        ap extent_total (rows-here sh s h k l) ∙ rw (add-one, record-count sh s h v k l r e) in
        record { within = omega arith; small = omega (arith, c.small, n); whole = omega (arith, c.whole, t) }

    pub counting-done : record_count h ≤ k → sum ≡ extents_listed (meaning_of sh s)
    unfolding extent_total meaning_of
    counting-done l =
        let z : extent_total (drop k (rows_of sh s h)) ≡ 0 = ap extent_total (rows-past sh s h k l) in
        let w : extent_total (rows_of sh s h) ≡ extent_total (rows_of sh s (header_of s)) = ap (λ (x : Header). extent_total (rows_of sh s x)) v.header in
        omega (arith, c.whole)

-- ---- the piece at a place

module _ (sh : Shape) (s : List ℕ) (h : Header) (v : Readable sh s h) {old new : Text} where
  -- a place by another name
  at-place : {p q : Place} {n : Place} → q ≡ p → PutsPiece (piece_at (meaning_of sh s) p) old new n → PutsPiece (piece_at (meaning_of sh s) q) old new n
  at-place e a = as-piece a (ap (piece_at (meaning_of sh s)) (sym e))

  pub at-record-count : (p : Place) → p ≡ RecordCount → Puts 29 old (count_line (ascii "records") (record_count h)) new
      → PutsPiece (piece_at (meaning_of sh s) p) old new (RecordLine 0)
  unfolding piece_at meaning_of
  at-record-count p e a =
      let n : record_count h ≡ length (rows_of sh s (header_of s)) = sym (rows_long sh s h) ∙ ap (λ (x : Header). length (rows_of sh s x)) v.header in
      at-place e (puts (RecordLine 0) (puts_as a (ap (count_line (ascii "records")) n) (omega arith)))

  pub at-extent-count : (p : Place) (n : ℕ) → p ≡ ExtentCount → n ≡ extents_listed (meaning_of sh s) → Puts 29 old (count_line (ascii "extents") n) new
      → PutsPiece (piece_at (meaning_of sh s) p) old new (ExtentLine 0 0)
  unfolding piece_at
  at-extent-count p n e f a =
      at-place e (puts (ExtentLine 0 0) (puts_as a (ap (count_line (ascii "extents")) f) (omega arith)))

  module _ (p n : Place) where
    pub at-record : (k : ℕ) → p ≡ RecordLine k → PutsPiece (record_piece k (drop k (rows_of sh s h))) old new n
        → PutsPiece (piece_at (meaning_of sh s) p) old new n
    unfolding piece_at meaning_of
    at-record k e a =
        at-place e (as-piece a (ap (λ (y : Header). record_piece k (drop k (rows_of sh s y))) v.header))

    pub at-extent : (k j : ℕ) → p ≡ ExtentLine k j → PutsPiece (row_piece k j (drop k (rows_of sh s h))) old new n
        → PutsPiece (piece_at (meaning_of sh s) p) old new n
    unfolding piece_at meaning_of
    at-extent k j e a =
        at-place e (as-piece a (ap (λ (y : Header). row_piece k j (drop k (rows_of sh s y))) v.header))

pub at-end : (sh : Shape) (s : List ℕ) (t : Text) (p : Place) → p ≡ Done → Room longest_line t → PutsPiece (piece_at (meaning_of sh s) p) t t Done
unfolding piece_at
at-end sh s t p e r = as-piece (stays Done r) (sym (ap (piece_at (meaning_of sh s)) e))
