-- Packed fields: how many bytes they take, that those are bytes, and that each field is read where those before it end.
--   widths, before   the bytes of all fields, and of those before the i-th
--   field            the i-th field
--   Fits             a number fits its field
-- Assumes nothing.
use Prim.Native.Nat.{ℕ, zero, suc, ◌+◌, ◌^◌, ◌<◌}
use mathlib.Core.Path.{◌≡◌, refl, ◌∙◌}
use mathlib.Core.List.{List, [], ◌∷◌}
use native.Mathlib.Nat.{add_assoc, add-zero}
use native.Mathlib.Omega.{arith}
use lib.ListN.{length, get_or, length-append}
use Rattle.numbers.specs.Numbers.{le, num_at, bytes_of}
use Rattle.numbers.proofs.NumberLaws.{length-bytes_of}
use Rattle.segment.specs.Tidy.{Field, packed}
use Rattle.lists.specs.Lists.{Each}
use Rattle.form_laws.proofs.PartsAt.{HasAt, has_left, has_right, has-number}

unfoldable pub widths : List Field → ℕ
widths [] = 0
widths (f ∷ fs) = f.width + widths fs

unfoldable pub before : List Field → ℕ → ℕ
before [] i = 0
before (f ∷ fs) zero = 0
before (f ∷ fs) (suc i) = f.width + before fs i

abbrev pub field : List Field → ℕ → Field
field fs i = get_or fs i (record { width = 0; value = 0 })

abbrev pub Fits : Field → Type 0
Fits f = f.value < 256 ^ f.width

pub length-packed : (fs : List Field) → length (packed fs) ≡ widths fs
unfolding packed widths
length-packed [] = refl
length-packed (f ∷ fs) =
    length-append (bytes_of f.width f.value) (packed fs) ∙ omega (arith, length-bytes_of f.width f.value, length-packed fs)

-- the fields behind the first
next-fields : {s : List ℕ} {at : ℕ} (f : Field) (fs : List Field) → HasAt s at (packed (f ∷ fs)) → HasAt s (at + f.width) (packed fs)
unfolding packed
next-fields f fs h = rw (length-bytes_of f.width f.value) at (has_right (bytes_of f.width f.value) (packed fs) h)

pub field-read : (fs : List Field) {s : List ℕ} {at : ℕ} → HasAt s at (packed fs) → Each Fits fs
    → (i : ℕ) → num_at (field fs i).width s (at + before fs i) ≡ (field fs i).value
unfolding packed before Each num_at le
field-read [] h e i = refl
field-read (f ∷ fs) {at = at} h e zero =
    rw (add-zero at) (has-number f.width f.value (has_left (bytes_of f.width f.value) (packed fs) h) e.0)
field-read (f ∷ fs) h e (suc i) = rw (← add_assoc) (field-read fs (next-fields f fs h) e.1 i)
