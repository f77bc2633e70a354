-- The listing from a place on is what is filled there, and the listing from where that stops; with room for a line, fewer pieces are left.
-- Assumes nothing.
use Prim.Native.Nat.{ℕ, zero, suc, ◌+◌, ◌-◌, ◌≤◌, ◌<◌}
use mathlib.Core.Path.{◌≡◌, refl, sym, ap, ◌∙◌}
use mathlib.Core.Bool.{true, false, false≢true}
use mathlib.Core.List.{List, [], ◌∷◌, ◌++◌, append_assoc}
use native.Mathlib.Numerals.{add-one}
use native.Mathlib.Omega.{arith}
use lib.Dec.{ltb}
use lib.ListN.{length, drop}
use Rattle.lists.proofs.Tests.{by-test, tests}
use Rattle.segment.specs.declared.extent.Extent.{Extent}
use Rattle.segment.specs.Meaning.{Row, row_extents, Meaning}
use Rattle.segment.specs.Tidy.{extent_total}
use Rattle.segment.specs.Listing.{extents_listed}
use Rattle.list_digits.specs.Digits.{ascii}
use Rattle.list_columns.specs.Listing.{count_line, record_line, extent_line, record_lines, extent_lines, extent_section, listing}
use Rattle.list_place.specs.declared.Place.{Place}
use Rattle.list_place.specs.declared.Place.TheVariants.{RecordCount, RecordLine, ExtentCount, ExtentLine, Done}
use Rattle.list_place.specs.Pieces.{
  Piece,
  piece,
  record_piece,
  extent_piece,
  row_piece,
  piece_at,
  is_done,
  longest_line,
  behind,
  filled_with,
  pieces_of,
  row_pieces,
  pieces_from,
  filled,
  extent_part,
  extents_from_row,
  text_from,
}

-- ---- behind the first of what is left

drop_more : {A : Type 0} (k : ℕ) (xs : List A) {x : A} {rest : List A} → drop k xs ≡ x ∷ rest → drop (k + 1) xs ≡ rest
drop_more zero [] e = cc
drop_more zero (y ∷ ys) e = cc
drop_more (suc k) [] e = cc
drop_more (suc k) (y ∷ ys) e = rw add-one (rw add-one at (drop_more k ys e))

-- a row from its first extent on is the whole row
rows-again : (k : ℕ) (rs : List Row) → extents_from_row k 0 rs ≡ extent_section k rs
unfolding extents_from_row extent_section
rows-again k [] = refl
rows-again k (r ∷ rs) = refl

again-pieces : (rs : List Row) → row_pieces 0 rs ≡ pieces_of rs
unfolding row_pieces pieces_of extent_total
again-pieces [] = refl
again-pieces (r ∷ rs) = omega arith

module _ (m : Meaning) where
  -- ---- one step

  -- the text from a place on is its piece, and the text from the next place on
  abbrev pub Step : Place → Type 0
  Step p = (text_from m p ≡ (piece_at m p).text ++ text_from m (piece_at m p).next) × (pieces_from m p ≡ suc (pieces_from m (piece_at m p).next))

  record-step : (k : ℕ) (left : List Row) → drop k m.records ≡ left → Step (RecordLine k)
  unfolding text_from piece_at record_piece record_lines pieces_from
  record-step k [] e = rw e (refl, omega arith)
  record-step k (r ∷ rs) e =
      let n = drop_more k m.records e in
      rw (e, n) (rw add-one (append_assoc (record_line k r) (record_lines (suc k) rs) (extent_part m)), omega arith)

  extent-step : (k j : ℕ) (r : Row) (rs : List Row) → drop k m.records ≡ r ∷ rs → (es : List Extent) → drop j (row_extents r) ≡ es → Step (ExtentLine k j)
  unfolding text_from piece_at row_piece extent_piece extents_from_row extent_lines pieces_from row_pieces
  extent-step k j r rs d [] g =
      let n = drop_more k m.records d in
      rw (d, g, n) (rw add-one (sym (rows-again (suc k) rs)), omega (arith, again-pieces rs))
  extent-step k j r rs d (x ∷ es) g =
      let n = drop_more j (row_extents r) g in
      rw (d, g, d, n) (rw add-one (append_assoc (extent_line k j x) (extent_lines k (suc j) es) (extent_section (suc k) rs)), omega arith)

  row_step : (k j : ℕ) (left : List Row) → drop k m.records ≡ left → Step (ExtentLine k j)
  unfolding text_from piece_at row_piece extents_from_row pieces_from row_pieces
  row_step k j [] e = rw e (refl, refl)
  row_step k j (r ∷ rs) e = extent-step k j r rs e (drop j (row_extents r)) refl

  pub step : (p : Place) → is_done p ≡ false → Step p
  unfolding text_from piece_at listing pieces_from
  step RecordCount n = (refl, omega arith)
  step (RecordLine k) n = record-step k (drop k m.records) refl
  step ExtentCount n = (
    ap (λ (t : List ℕ). count_line (ascii "extents") (extents_listed m) ++ t) (sym (rows-again 0 m.records)),
    omega (arith, again-pieces m.records),
  )
  step (ExtentLine k j) n = row_step k j (drop k m.records) refl
  step Done n = absurd (false≢true (sym n))

  pub done : (p : Place) → is_done p ≡ true → p ≡ Done
  done RecordCount e = cc
  done (RecordLine k) e = cc
  done ExtentCount e = cc
  done (ExtentLine k j) e = cc
  done Done e = refl

  pub nothing_left : (p : Place) → is_done p ≡ true → (text_from m p ≡ []) × (pieces_from m p ≡ 0)
  unfolding text_from pieces_from
  nothing_left p e = rw (done p e) (refl, refl)

  -- ---- as many as have room

  -- where there is no room for a line
  pub filled-full : (p : Place) (room : ℕ) → room < longest_line → filled m p room ≡ piece [] p
  unfolding filled filled_with
  filled-full p room h = go (pieces_from m p)
    where
      go : (n : ℕ) → filled_with m n p room ≡ piece [] p
      go zero = refl
      go (suc n) = simp tests

  pub filled-done : (p : Place) (room : ℕ) → is_done p ≡ true → filled m p room ≡ piece [] p
  unfolding filled filled_with
  filled-done p room d = rw (nothing_left p d).1

  pub filled_more : (p : Place) (room : ℕ) → longest_line ≤ room → is_done p ≡ false
      → filled m p room ≡ behind (piece_at m p).text (filled m (piece_at m p).next (room - length (piece_at m p).text))
  unfolding filled filled_with
  filled_more p room h d =
      rw (step p d).1 (simp tests)

  -- what is filled, and the text from where it stops
  filled-with : (n : ℕ) (p : Place) (room : ℕ) → pieces_from m p ≡ n
      → (text_from m p ≡ (filled_with m n p room).text ++ text_from m (filled_with m n p room).next)
      × (pieces_from m (filled_with m n p room).next ≤ n)
  unfolding filled_with
  filled-with zero p room e = (refl, omega arith)
  filled-with (suc n) p room e =
      by-test (is_done p) (λ d. absurd (omega (arith, (nothing_left p d).1)))
      (λ d. by-test (ltb room longest_line) (λ t. rw t (refl, omega arith))
      (λ t. let after : Piece = filled_with m n (piece_at m p).next (room - length (piece_at m p).text) in
      let rest = filled-with n (piece_at m p).next (room - length (piece_at m p).text) (omega (arith, (step p d).1)) in
      rw t (
        (step p d).0 ∙ ap (λ (x : List ℕ). (piece_at m p).text ++ x) rest.0 ∙ sym (append_assoc (piece_at m p).text after.text (text_from m after.next)),
        omega (arith, rest.1),
      )))

  pub filled-text : (p : Place) (room : ℕ) → text_from m p ≡ (filled m p room).text ++ text_from m (filled m p room).next
  unfolding filled
  filled-text p room = (filled-with (pieces_from m p) p room refl).0

  filled-left : (p : Place) (room : ℕ) → pieces_from m (filled m p room).next ≤ pieces_from m p
  unfolding filled
  filled-left p room = (filled-with (pieces_from m p) p room refl).1

  -- with room for a line, something is filled
  pub filled_on : (p : Place) (room : ℕ) → longest_line ≤ room → is_done p ≡ false → pieces_from m (filled m p room).next < pieces_from m p
  filled_on p room h d =
      rw (filled_more p room h d) (omega (arith, (step p d).1, filled-left (piece_at m p).next (room - length (piece_at m p).text)))
