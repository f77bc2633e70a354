-- The loop that fills the output: what is put, and what is filled from the place that it has come to, are the whole.
-- Assumes nothing.
use Prim.Native.Nat.{ℕ, ◌+◌, ◌-◌, ◌≤◌, ◌<◌}
use mathlib.Core.Path.{◌≡◌, sym, ap, ap₂, ◌∙◌}
use mathlib.Core.Bool.{true, false}
use mathlib.Core.List.{List, [], ◌++◌, append-nil, append_assoc}
use native.Mathlib.Omega.{arith}
use lib.ListN.{length}
use Rattle.segment.specs.Meaning.{Meaning}
use Rattle.list_digits.specs.declared.Text.{Text}
use Rattle.list_digits.specs.Digits.{Puts}
use Rattle.list_digits.proofs.TextLaws.{retold, puts_both, puts_none, stop-within}
use Rattle.list_place.specs.declared.Place.{Place}
use Rattle.list_place.specs.Pieces.{Piece, piece, piece_at, is_done, longest_line, behind, pieces_from, filled}
use Rattle.list_line.specs.PutsPiece.{PutsPiece}
use Rattle.list_text.specs.Stopped.{Stopped}
use Rattle.list_place.proofs.Pieces.{step, filled-full, filled-done, filled_more}

pub record Filling (m : Meaning) (place : Place) (old : Text) (next : Place) (new : Text) : Type 0 where
  pub done : List ℕ
  pub most : ℕ
  pub put : Puts most old done new
  pub whole : filled m place (length old.out.now) ≡ behind done (filled m next (length new.out.now - new.at))
  pub within : new.at ≤ length new.out.now

pub filling-start : (m : Meaning) (place : Place) (t : Text) → t.at ≡ 0 → Filling m place t place t
filling-start m place t z = record {
  done = [];
  most = 0;
  put = puts_none 0 t (omega arith);
  whole = ap (filled m place) (omega arith);
  within = omega arith;
}

module _ (m : Meaning) (place : Place) (old : Text) (next : Place) (new : Text) (f : Filling m place old next new) where
  behind-twice : (xs ys : List ℕ) (p : Piece) → behind xs (behind ys p) ≡ behind (xs ++ ys) p
  behind-twice xs ys p = ap (λ (t : List ℕ). piece t p.next) (sym (append_assoc xs ys p.text))

  module _ (d : is_done next ≡ false) (after : Text) (n : Place) (v : PutsPiece (piece_at m next) new after n) where
    pub filling-more : longest_line ≤ length new.out.now - new.at → Filling m place old n after
    filling-more room =
        let text : List ℕ = (piece_at m next).text in
        let left : length new.out.now - new.at - length text ≡ length after.out.now - after.at = omega (arith, v.put.same_length, v.put.put.stops) in
        record {
          done = f.done ++ text;
          most = f.most + longest_line;
          put = puts_both f.put v.put;
          whole =
              f.whole ∙ ap (behind f.done) (filled_more m next (length new.out.now - new.at) room d) ∙ behind-twice f.done text _
              ∙ ap₂ (λ (p : Place) (r : ℕ). behind (f.done ++ text) (filled m p r)) (sym v.next) left;
          within = stop-within v.put.put;
        }

    pub filling-less : pieces_from m n < pieces_from m next
    filling-less =
        let e : pieces_from m n ≡ pieces_from m (piece_at m next).next = ap (pieces_from m) v.next in
        omega (arith, (step m next d).1)

  -- `out` is what the text leaves
  module _ (out : List ℕ) (back : out ≡ new.out.now) where
    abbrev Ends : Type 0
    Ends = Stopped (length old.out.now) (filled m place (length old.out.now)) old.out.now old.at out (record { next = next; end = new.at })

    ends : filled m next (length new.out.now - new.at) ≡ piece [] next → Ends
    ends z =
        let a = f.put.put in
        let w : filled m place (length old.out.now) ≡ behind f.done (piece [] next) = f.whole ∙ ap (behind f.done) z in
        let t : f.done ≡ (filled m place (length old.out.now)).text = sym (ap (λ (p : Piece). p.text) w ∙ append-nil f.done) in
        record {
          put = retold {m = length old.out.now} (record { same = back ∙ a.same; stops = a.stops; fits = a.fits; short = omega (arith, a.fits) }) t (omega arith);
          next = sym (ap (λ (p : Piece). p.next) w);
        }

    pub filling-done : is_done next ≡ true → Ends
    filling-done d = ends (filled-done m next (length new.out.now - new.at) d)

    pub filling-full : length new.out.now - new.at < longest_line → Ends
    filling-full h = ends (filled-full m next (length new.out.now - new.at) h)
