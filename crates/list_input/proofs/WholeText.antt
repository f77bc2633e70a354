-- The parts one after another are what is written of the input, whatever room each of them had.
-- Assumes nothing.
use Prim.Native.Nat.{ℕ, ◌≤◌}
use mathlib.Core.Path.{◌≡◌, refl, sym, ap, ap₂, ◌∙◌}
use mathlib.Core.List.{List, [], ◌∷◌, ◌++◌, append-nil, append_assoc}
use native.Mathlib.Omega.{arith}
use borrow.Author.Tests.{ltb-true, ltb-false}
use lib.Dec.{ltb}
use lib.ListN.{length, take}
use lib.Seq.{take_all, length-take-le}
use Rattle.lists.specs.Lists.{Each}
use Rattle.lists.proofs.Tests.{by-test}
use Rattle.segment.specs.Format.{v3}
use Rattle.segment.specs.Meaning.{meaning_of}
use Rattle.list_columns.specs.Listing.{written}
use Rattle.list_place.specs.declared.Place.{Place}
use Rattle.list_place.specs.declared.Place.TheVariants.{RecordCount, Done}
use Rattle.list_place.specs.Pieces.{is_done, pieces_from}
use Rattle.list_place.proofs.Pieces.{step, done}
use Rattle.list_text.specs.declared.Stop.{Stop}
use Rattle.list_input.specs.Parts.{part_at, left_at, Part, Wide, calls}
use Rattle.list_input.proofs.PartLaws.{written-long, part-on, part-over, part_left, left-done}

module _ (s : List ℕ) where
  -- ---- what was left is what the calls put, and what is left then

  calls-left : (rooms : List ℕ) (p : Place) → left_at s p ≡ (calls s rooms p).text ++ left_at s (calls s rooms p).next
  unfolding calls
  calls-left [] p = refl
  calls-left (room ∷ rooms) p =
      let next : Place = (part_at s p room).next in
      part_left s p room ∙ ap (λ (t : List ℕ). (part_at s p room).text ++ t) (calls-left rooms next)
      ∙ sym (append_assoc (part_at s p room).text (calls s rooms next).text (left_at s (calls s rooms next).next))

  -- once they have come to the end, they have put the whole
  pub calls-written : (rooms : List ℕ) → (calls s rooms RecordCount).next ≡ Done → (calls s rooms RecordCount).text ≡ written s
  unfolding left_at
  calls-written rooms e =
      let text : List ℕ = (calls s rooms RecordCount).text in
      sym (calls-left rooms RecordCount ∙ ap (λ (p : Place). text ++ left_at s p) e ∙ ap (λ (t : List ℕ). text ++ t) (left-done s) ∙ append-nil text)

  -- ---- they come to the end

  calls-over : (rooms : List ℕ) (p : Place) → Each Wide rooms → pieces_from (meaning_of v3 s) p ≤ length rooms → (calls s rooms p).next ≡ Done
  unfolding calls Each
  calls-over [] p w l =
      by-test (is_done p) (λ d. done (meaning_of v3 s) p d) (λ d. absurd (omega (arith, (step (meaning_of v3 s) p d).1)))
  calls-over (room ∷ rooms) p w l =
      calls-over rooms (part_at s p room).next w.1
      (by-test (is_done p) (λ d. omega (arith, part-over s p room w.0 d)) (λ d. omega (arith, part-on s p room w.0 d)))

  -- as many calls as there are pieces are enough, where each has room for a longest line
  pub calls-end : (rooms : List ℕ) → Each Wide rooms → pieces_from (meaning_of v3 s) RecordCount ≤ length rooms → (calls s rooms RecordCount).next ≡ Done
  calls-end rooms w l = calls-over rooms RecordCount w l

-- ---- the input

-- one byte more than is listed tells what is written
pub written-enough : (s : List ℕ) → written (take 65537 s) ≡ written s
written-enough s =
    by-test (ltb 65537 (length s))
    (λ t. let l = ltb-true 65537 (length s) t in
    written-long (take 65537 s) (omega (arith, length-take-le 65537 s (omega arith))) ∙ sym (written-long s (omega arith)))
    (λ t. ap written (take_all 65537 s (ltb-false 65537 (length s) t)))

-- ---- two answers that the promise allows are equal, and so is every byte that they leave

module _ (s : List ℕ) (p : Place) (before : List ℕ) where
  pub one-part : (after₁ after₂ : List ℕ) (stop₁ stop₂ : Stop) → Part s p before after₁ stop₁ → Part s p before after₂ stop₂
      → (after₁ ≡ after₂) × (stop₁ ≡ stop₂)
  one-part after₁ after₂ stop₁ stop₂ a b =
      let x = a.put.put in
      let y = b.put.put in
      (x.same ∙ sym y.same, stop-same (a.put.next ∙ sym b.put.next) (x.stops ∙ sym y.stops))
    where
      stop-same : stop₁.next ≡ stop₂.next → stop₁.end ≡ stop₂.end → stop₁ ≡ stop₂
      stop-same e f = ap₂ (λ (n : Place) (k : ℕ). record { next = n; end = k }) e f
