-- A part of what is written of an input, and what is left behind it.
-- Assumes nothing.
use Prim.Native.Nat.{ℕ, ◌+◌, ◌≤◌, ◌<◌}
use mathlib.Core.Path.{◌≡◌, refl, sym, ap, ap₂, subst, ◌∙◌}
use mathlib.Core.Bool.{Bool, true, false, cond}
use mathlib.Core.List.{List, [], ◌++◌, append-nil}
use native.Mathlib.Omega.{arith}
use borrow.Author.Tests.{ltb-true, ltb-false}
use lib.Dec.{ltb}
use lib.ListN.{length, take, drop}
use lib.Seq.{take_at}
use Rattle.std.specs.Prelude.{Err, Ok}
use Rattle.answer.specs.Rules.{Verdict, accepted}
use Rattle.lists.proofs.Tests.{by-test, tests}
use Rattle.answer.specs.declared.Refusal.{Refusal}
use Rattle.answer.specs.Answers.{check_answer}
use Rattle.answer.proofs.Settled.{check-settled}
use Rattle.segment.specs.Format.{v3}
use Rattle.segment.specs.Check.{checked, check_of}
use Rattle.segment.specs.Meaning.{Meaning, meaning_of}
use Rattle.numbers.specs.Numbers.{put}
use Rattle.list_digits.specs.declared.Text.{Text}
use Rattle.list_digits.specs.Digits.{ascii, Puts}
use Rattle.list_digits.proofs.TextLaws.{retold, puts_as, puts_none}
use Rattle.list_columns.specs.Listing.{last, refusal_line, listing, listed, table_listed, most_listed, written}
use Rattle.list_place.specs.declared.Place.{Place}
use Rattle.list_place.specs.declared.Place.TheVariants.{RecordCount, RecordLine, ExtentCount, ExtentLine, Done}
use Rattle.list_place.specs.Pieces.{Piece, piece, is_first, is_done, longest_line, pieces_from, filled, text_from}
use Rattle.list_place.proofs.Pieces.{step, nothing_left, filled-done, filled-text, filled_on}
use Rattle.list_text.specs.declared.Stop.{Stop}
use Rattle.list_text.specs.Stopped.{Stopped}
use Rattle.list_input.specs.Parts.{only, only_piece, part_at, left_at, Part}

module _ (s : List ℕ) where
  abbrev m : Meaning
  m = meaning_of v3 s

  -- ---- what is written, by what the input is

  pub written-long : most_listed < length s → written s ≡ last (ascii "too long")
  unfolding written
  written-long h = simp tests

  module _ (h : length s ≤ most_listed) where
    written-whole : written s ≡ listed table_listed s
    unfolding written
    written-whole = simp tests

    pub written-refused : (r : Refusal) → checked table_listed s ≡ Err r → written s ≡ refusal_line r
    unfolding listed
    written-refused r e = written-whole ∙ rw e

    pub written_listed : checked table_listed s ≡ accepted → written s ≡ listing m
    unfolding listed
    written_listed e = written-whole ∙ rw e

  -- ---- what is left, by what the input is

  left-long : (p : Place) → most_listed < length s → left_at s p ≡ only (last (ascii "too long")) p
  unfolding left_at
  left-long p h = rw (written-long h) (simp tests)

  module _ (h : length s ≤ most_listed) where
    left-refused : (p : Place) (r : Refusal) → checked table_listed s ≡ Err r → left_at s p ≡ only (refusal_line r) p
    unfolding left_at
    left-refused p r e = rw (written-refused h r e, e) (simp tests)

    left-listed : (p : Place) → checked table_listed s ≡ accepted → left_at s p ≡ text_from m p
    unfolding left_at text_from
    left-listed RecordCount e = written_listed h e
    left-listed (RecordLine k) e = rw e (simp tests)
    left-listed ExtentCount e = rw e (simp tests)
    left-listed (ExtentLine k j) e = rw e (simp tests)
    left-listed Done e = rw e (simp tests)

  -- ---- a part, by what the input is

  module _ (p : Place) (room : ℕ) where
    pub part-full : room < longest_line → part_at s p room ≡ piece [] p
    unfolding part_at
    part-full h = simp tests

    module _ (h : longest_line ≤ room) where
      pub part-long : most_listed < length s → part_at s p room ≡ only_piece (last (ascii "too long")) p
      unfolding part_at
      part-long l = simp tests

      pub part-refused : length s ≤ most_listed → (r : Refusal) → checked table_listed s ≡ Err r → part_at s p room ≡ only_piece (refusal_line r) p
      unfolding part_at
      part-refused l r e = rw e (simp tests)

      pub part-listed : length s ≤ most_listed → checked table_listed s ≡ accepted → part_at s p room ≡ filled m p room
      unfolding part_at
      part-listed l e = rw e (simp tests)

      -- one line alone, or the listing
      module _ (P : Piece → Type 0)
          (line : (l : List ℕ) → ((q : Place) → left_at s q ≡ only l q) → P (only_piece l p))
          (lines : ((q : Place) → left_at s q ≡ text_from m q) → P (filled m p room)) where
        by-verdict : length s ≤ most_listed → (v : Verdict) → checked table_listed s ≡ v → P (part_at s p room)
        by-verdict l (Ok _) e = subst P (sym (part-listed l e)) (lines (λ q. left-listed l q e))
        by-verdict l (Err r) e = subst P (sym (part-refused l r e)) (line (refusal_line r) (λ q. left-refused l q r e))

        by-input : P (part_at s p room)
        by-input =
            by-test (ltb most_listed (length s))
            (λ t. let l = ltb-true most_listed (length s) t in
            subst P (sym (part-long l)) (line (last (ascii "too long")) (λ q. left-long q l)))
            (λ t. by-verdict (ltb-false most_listed (length s) t) (checked table_listed s) refl)

      -- it moves on
      pub part-on : is_done p ≡ false → pieces_from m (part_at s p room).next < pieces_from m p
      unfolding only_piece
      part-on d =
          by-input (λ (q : Piece). pieces_from m q.next < pieces_from m p)
          (λ l e. omega (arith, (nothing_left m Done refl).1, (step m p d).1))
          (λ e. filled_on m p room h d)

      -- and stays where all is written
      pub part-over : is_done p ≡ true → pieces_from m (part_at s p room).next ≡ 0
      unfolding only_piece
      part-over d =
          by-input (λ (q : Piece). pieces_from m q.next ≡ 0)
          (λ l e. (nothing_left m Done refl).1)
          (λ e. rw (filled-done m p room d) (nothing_left m p d).1)

    -- what is left is the part, and what is left behind it
    abbrev Goes : Piece → Type 0
    Goes q = left_at s p ≡ q.text ++ left_at s q.next

    pub part_left : Goes (part_at s p room)
    unfolding only_piece
    part_left =
        by-test (ltb room longest_line)
        (λ t. subst Goes (sym (part-full (ltb-true room longest_line t))) refl)
        (λ t. by-input (ltb-false room longest_line t) Goes
        (λ l e. e p ∙ sym (append-nil (only l p)) ∙ ap (λ (x : List ℕ). only l p ++ x) (sym (e Done)))
        (λ e. e p ∙ filled-text m p room ∙ ap (λ (x : List ℕ). (filled m p room).text ++ x) (sym (e (filled m p room).next))))

  pub left-done : left_at s Done ≡ []
  left-done =
      by-input Done longest_line (omega arith) (λ (q : Piece). left_at s Done ≡ []) (λ l e. e Done) (λ e. e Done ∙ (nothing_left m Done refl).0)

-- ---- one line alone, by whether the place is the first

module _ (line : List ℕ) (p : Place) (b : Bool) (e : b ≡ is_first p) where
  by-first : (s t : Text) → Puts 53 s (cond b line []) t → (after : List ℕ) → after ≡ t.out.now
      → Stopped 53 (only_piece line p) s.out.now s.at after (record { next = Done; end = t.at })
  unfolding only_piece
  by-first s t v after back =
      let a = v.put in
      rw (sym e) (record { put = record { same = back ∙ a.same; stops = a.stops; fits = a.fits; short = a.short }; next = refl })

  pub only-first : b ≡ true → {n : ℕ} {s t u : Text} → Puts n s line t → n ≤ 53 → u ≡ t → (after : List ℕ) → after ≡ u.out.now
      → Stopped 53 (only_piece line p) s.out.now s.at after (record { next = Done; end = u.at })
  only-first f {s = s} {u = u} v h same = by-first s u (rw (f, same) (puts_as v refl h))

  pub only-later : b ≡ false → {s u : Text} → u ≡ s → s.at ≤ length s.out.now → (after : List ℕ) → after ≡ u.out.now
      → Stopped 53 (only_piece line p) s.out.now s.at after (record { next = Done; end = u.at })
  only-later f {s} {u} same h = by-first s u (rw (f, same) (puts_none 53 s h))

-- ---- what check answered

pub check-told : (pairs s : List ℕ) (v : Verdict) → check_answer v ≡ check_of pairs s → checked pairs s ≡ v
unfolding check_of
check-told pairs s v e = sym (check-settled v (checked pairs s) e)

-- ---- what a call answers and leaves

module _ (s : List ℕ) (p : Place) (before after : List ℕ) (stop : Stop) where
  pub part-told : (n : ℕ) (q : Piece) → part_at s p (length before) ≡ q → n ≤ length before → Stopped n q before 0 after stop → Part s p before after stop
  unfolding put
  part-told n q e h v =
      let t : take stop.end after ≡ q.text =
      rw v.put.same (take_at q.text (drop (0 + length q.text) before) stop.end (omega (arith, v.put.stops))) in
      record {
        put = subst (λ (x : Piece). Stopped (length before) x before 0 after stop) (sym e) (record { put = retold v.put refl h; next = v.next });
        left =
            part_left s p (length before)
            ∙ ap₂ (λ (x : List ℕ) (n : Place). x ++ left_at s n) (ap (λ (y : Piece). y.text) e ∙ sym t) (ap (λ (y : Piece). y.next) e ∙ sym v.next);
      }
