-- Things laid out flat, so many numbers to each: as many numbers as they come to, read back as what they were, and below a bound where each of them is.
--   flat-read    read back: of anything that its numbers at a place give back; entry_read and extents-read for the two kinds that write is lent
--   below-flat   numbers below a bound
-- Assumes nothing.
use Prim.Native.Nat.{ℕ, zero, suc, ◌+◌, ◌*◌, ◌<◌}
use mathlib.Core.Path.{◌≡◌, refl, sym, ap, ap₂, ◌∙◌}
use mathlib.Core.List.{List, [], ◌∷◌, map}
use native.Mathlib.Nat.{mul-suc}
use native.Mathlib.Numerals.{unary_clauses}
use native.Mathlib.Omega.{arith}
use lib.Dec.{lit<}
use lib.ListN.{length, get_or, length-append, get_or-append}
use lib.Seq.{get_or-drop}
use Rattle.numbers.proofs.NumberLaws.{below-append}
use Rattle.segment.specs.declared.entry.Entry.{Entry}
use Rattle.segment.specs.declared.extent.Extent.{Extent}
use Rattle.segment.specs.Format.{v3}
use Rattle.segment.specs.Meaning.{State, gone, live, extents_of_state}
use Rattle.lists.specs.Lists.{count_from, Each}
use Rattle.segment.specs.Write.{listed_extent, extents_from, entry_no}
use Rattle.form_laws.specs.Form.{ExtentWritable, StateWritable}
use Rattle.form_laws.proofs.PartsAt.{HasAt, has_left, has_right}
use Rattle.theorem_demands.specs.Writing.{Wide}
use Rattle.theorem_demands.specs.Asking.{flat, entry_numbers, extent_numbers}

-- ---- what is laid out flat

module _ {A : Type 0} (w : ℕ) (numbers : A → List ℕ) (long : (x : A) → length (numbers x) ≡ w) where
  pub flat-long : (xs : List A) → length (flat numbers xs) ≡ w * length xs
  unfolding flat
  flat-long [] = simp unary_clauses refl
  flat-long (x ∷ xs) = length-append (numbers x) (flat numbers xs) ∙ rw (long x, flat-long xs, mul-suc w (length xs)) (omega arith)

  pub flat-read : (s : List ℕ) (read : ℕ → A) → ((k : ℕ) (x : A) → HasAt s (w * k) (numbers x) → read k ≡ x)
      → (k : ℕ) (xs : List A) → HasAt s (w * k) (flat numbers xs) → map read (count_from k (length xs)) ≡ xs
  unfolding flat count_from
  flat-read s read one k [] h = refl
  flat-read s read one k (x ∷ xs) h =
      let next : HasAt s (w * suc k) (flat numbers xs) = rw (mul-suc w k) (rw (long x) at (has_right (numbers x) (flat numbers xs) h)) in
      ap₂ (λ (y : A) (ys : List A). y ∷ ys) (one k x (has_left (numbers x) (flat numbers xs) h)) (flat-read s read one (suc k) xs next)

-- the number at a place of what stands there
pub stands_at : {s : List ℕ} {at : ℕ} (xs : List ℕ) (i : ℕ) → HasAt s at xs → i < length xs → get_or s (at + i) 0 ≡ get_or xs i 0
stands_at {s} {at} xs i h l =
    sym (get_or-drop at s i 0) ∙ ap (λ (ys : List ℕ). get_or ys i 0) h.here ∙ get_or-append xs h.rest 0 i l

first-at : {s : List ℕ} {at : ℕ} (x : ℕ) (xs : List ℕ) → HasAt s at (x ∷ xs) → get_or s at 0 ≡ x
first-at {s} {at} x xs h = let e : at ≡ at + 0 = omega arith in ap (λ (i : ℕ). get_or s i 0) e ∙ stands_at (x ∷ xs) 0 h (omega arith)

pub entry_read : (s : List ℕ) (k : ℕ) (e : Entry) → HasAt s (9 * k) (entry_numbers e) → entry_no s k ≡ e
unfolding entry_no
entry_read s k e h = λ j. record {
  hash_id = first-at _ _ h j;
  digest_start = stands_at (entry_numbers e) 1 h (lit< tt) j;
  digest_length = stands_at (entry_numbers e) 2 h (lit< tt) j;
  visibility = stands_at (entry_numbers e) 3 h (lit< tt) j;
  imported = stands_at (entry_numbers e) 4 h (lit< tt) j;
  source = stands_at (entry_numbers e) 5 h (lit< tt) j;
  gone = stands_at (entry_numbers e) 6 h (lit< tt) j;
  first_extent = stands_at (entry_numbers e) 7 h (lit< tt) j;
  extent_count = stands_at (entry_numbers e) 8 h (lit< tt) j;
}

extent-read : (s : List ℕ) (k : ℕ) (e : Extent) → HasAt s (3 * k) (extent_numbers e) → listed_extent s k ≡ e
unfolding listed_extent
extent-read s k e h = λ j. record {
  block = first-at _ _ h j;
  offset = record { 0 = stands_at (extent_numbers e) 1 h (lit< tt) j };
  length = stands_at (extent_numbers e) 2 h (lit< tt) j;
}

extents-counted : (s : List ℕ) (k n : ℕ) → extents_from s k n ≡ map (listed_extent s) (count_from k n)
unfolding extents_from count_from
extents-counted s k zero = refl
extents-counted s k (suc n) = ap (λ (es : List Extent). listed_extent s k ∷ es) (extents-counted s (suc k) n)

pub extents-read : (s : List ℕ) (k : ℕ) (es : List Extent) → HasAt s (3 * k) (flat extent_numbers es) → extents_from s k (length es) ≡ es
extents-read s k es h = extents-counted s k (length es) ∙ flat-read 3 extent_numbers (λ e. refl) s (listed_extent s) (extent-read s) k es h

-- ---- numbers below a bound

abbrev Below : ℕ → List ℕ → Type 0
Below b xs = (i : ℕ) → get_or xs i 0 < b

pub below-flat : {A : Type 0} (numbers : A → List ℕ) (b : ℕ) (P : A → Type 0) → 0 < b → ((x : A) → P x → Below b (numbers x))
    → (xs : List A) → Each P xs → Below b (flat numbers xs)
unfolding flat Each
below-flat numbers b P z one [] e i = z
below-flat numbers b P z one (x ∷ xs) e i = below-append b (numbers x) (flat numbers xs) (one x e.0) (below-flat numbers b P z one xs e.1) i

extent-wide : (e : Extent) → ExtentWritable e → Wide (extent_numbers e)
extent-wide e w zero = omega (arith, w.block)
extent-wide e w (suc zero) = omega (arith, w.offset)
extent-wide e w (suc (suc zero)) = omega (arith, w.size)
extent-wide e w (suc (suc (suc i))) = lit< tt

pub state-wide : (st : State) → StateWritable v3 st → Wide (flat extent_numbers (extents_of_state st))
unfolding flat
state-wide gone w i = lit< tt
state-wide (live es) w i = below-flat extent_numbers _ ExtentWritable (lit< tt) extent-wide es w.each i
