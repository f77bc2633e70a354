-- Columns one behind the other.
-- Assumes nothing.
use Prim.Native.Nat.{ℕ, ◌+◌, ◌≤◌}
use mathlib.Core.Path.{◌≡◌, refl, sym, ◌∙◌, ap₂}
use mathlib.Core.List.{List, ◌++◌, append_assoc}
use Rattle.answer.specs.declared.Refusal.{Refusal}
use Rattle.answer.specs.Answers.{number_of, place_of}
use Rattle.segment.specs.declared.extent.Extent.{Extent}
use Rattle.list_digits.specs.declared.Text.{Text}
use Rattle.list_digits.specs.Digits.{ascii, decimal, Puts}
use Rattle.list_digits.proofs.TextLaws.{puts_both, puts_as}
use Rattle.list_columns.specs.Listing.{cell, last, extent_line, refusal_line}
use Rattle.list_columns.specs.Columns.{slice_cells}

module _ {m₁ m₂ : ℕ} {s t u : Text} {xs ys : List ℕ} (a : Puts m₁ s xs t) (b : Puts m₂ t ys u) where
  pub two : (n : ℕ) → m₁ + m₂ ≤ n → Puts n s (xs ++ ys) u
  two n h = puts_as (puts_both a b) refl h

  module _ {m₃ : ℕ} {v : Text} {zs : List ℕ} (c : Puts m₃ u zs v) where
    pub three : (n : ℕ) → m₁ + m₂ + m₃ ≤ n → Puts n s (xs ++ ys ++ zs) v
    three n h = puts_as (puts_both (puts_both a b) c) refl h

pub extent-line : (k j : ℕ) (e : Extent) → cell (decimal k) ++ cell (decimal j) ++ slice_cells e ≡ extent_line k j e
unfolding extent_line slice_cells
extent-line k j e = simp append_assoc

pub refusal-line : (r : Refusal) (n p : ℕ) → n ≡ number_of r → p ≡ place_of r
    → cell (ascii "refused") ++ cell (decimal n) ++ (cell (ascii "at") ++ last (decimal p)) ≡ refusal_line r
unfolding refusal_line
refusal-line r n p e f =
    sym (append_assoc (cell (ascii "refused") ++ cell (decimal n)) (cell (ascii "at")) (last (decimal p)))
    ∙ ap₂ (λ (a b : ℕ). cell (ascii "refused") ++ cell (decimal a) ++ cell (ascii "at") ++ last (decimal b)) e f
