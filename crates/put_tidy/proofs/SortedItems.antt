-- Sorted numbers: each is still the number of an item that may be written, and the items' rows in that order are their rows, sorted.
-- Assumes nothing.
use Prim.Native.Nat.{ℕ, ◌≤◌}
use mathlib.Core.Path.{◌≡◌, ap, subst, ◌∙◌}
use mathlib.Core.List.{List}
use native.Mathlib.Omega.{arith}
use lib.ListN.{length, take, replicate, length-replicate}
use lib.Seq.{length-take-le}
use Rattle.answer.specs.Answers.{Written}
use Rattle.segment.specs.declared.header.Heading.{Heading}
use Rattle.segment.specs.declared.shape.Shape.{Shape}
use Rattle.lists.specs.Lists.{count_from}
use Rattle.segment.specs.Tidy.{form_of, tidy_form}
use Rattle.key.specs.declared.Kind.{Kind}
use Rattle.key.specs.Items.{Items}
use Rattle.key_sort.specs.Sorted.{Sorted}
use Rattle.key_sort.proofs.Numbered.{sorted-each}
use Rattle.put_item.specs.Lines.{item_rows, Lines, Line}
use Rattle.put_item.proofs.ItemRows.{rows-sorted}
use Rattle.put_form.specs.Emit.{Emitted}
use Rattle.put_form.specs.declared.Frame.{Frame}
use Rattle.put_item.specs.declared.Source.{Source}
use Rattle.put_tidy.specs.ItemsForm.{AllLines, items_form, AllLinesIn, form_in}

module _ (kind : Kind) (bytes list extents : List ℕ) (n : ℕ) where
  pub lines-read : AllLines kind bytes list extents n → Items kind bytes list n
  lines-read a = record { each = λ k h. (a.each k h).counted.item }

  module _ (hints numbers : List ℕ) (s : Sorted kind bytes list n hints numbers) where
    pub sorted-lines : AllLines kind bytes list extents n → Lines kind bytes list extents numbers
    sorted-lines a = sorted-each kind bytes list n hints numbers s (Line kind bytes list extents) a.each

    sorted-form : (sh : Shape) (t : Heading) (bloom : List ℕ) → form_of sh t bloom (item_rows kind bytes list extents numbers) ≡ items_form sh t bloom kind bytes list extents n
    unfolding items_form tidy_form
    sorted-form sh t bloom = ap (form_of sh t bloom) (ap (item_rows kind bytes list extents) s.sorted ∙ rows-sorted kind bytes list extents (count_from 0 n))

    pub sorted-wrote : (sh : Shape) (t : Heading) (bloom out after : List ℕ) (w : Written) → Emitted (form_of sh t bloom (item_rows kind bytes list extents numbers)) out after w
        → Emitted (items_form sh t bloom kind bytes list extents n) out after w
    sorted-wrote sh t bloom out after w h = subst (λ (f : List ℕ). Emitted f out after w) (sorted-form sh t bloom) h

-- ---- the front of an array of m numbers, lent for n of them

abbrev pub front : ℕ → ℕ → List ℕ
front m n = take n (replicate m 0)

pub front-long : (m n : ℕ) → n ≤ m → length (front m n) ≡ n
front-long m n h = length-take-le n (replicate m 0) (omega (arith, length-replicate {A = ℕ} m 0))

module _ (m n : ℕ) (h : n ≤ m) (source : Source) where
  pub lent-lines : AllLinesIn source n → AllLinesIn source (length (front m n))
  lent-lines a = rw (front-long m n h) a

  pub lent-wrote : (frame : Frame) (out after : List ℕ) (w : Written) → Emitted (form_in frame source (length (front m n))) out after w
      → Emitted (form_in frame source n) out after w
  lent-wrote frame out after w x = rw (front-long m n h) at x
