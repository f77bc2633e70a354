-- The sum over an entry's extents, and 10. Each premise is as the code's test or call leaves it.
-- Assumes nothing.
use Prim.Native.Nat.{ℕ, ◌+◌, ◌-◌, ◌*◌, ◌≤◌, ◌<◌}
use mathlib.Core.Path.{◌≡◌, sym, ◌∙◌}
use mathlib.Core.Bool.{Bool, true, false, not, ◌&&◌}
use mathlib.Core.List.{List}
use native.Mathlib.Omega.{arith}
use borrow.Author.Tests.{ltb-true, not-true, not-false}
use lib.Dec.{ltb, leb}
use lib.ListN.{get_or}
use Rattle.lists.proofs.Tests.{tests, and-iff, was-true}
use Rattle.segment.specs.declared.extent.Extent.{Extent}
use Rattle.segment.specs.Check.{sum_lengths}
use Rattle.segment.specs.Write.{listed_extent, extents_from, all_listed_fit}
use Rattle.segment.proofs.ListedExtents.{next-listed}
use Rattle.write_entry.specs.Kept.{total_kept}

-- ---- one extent

-- an extent's offset and length fit their fields, and it lies inside its block
abbrev Fit : ℕ → ℕ → Bool
Fit offset size = ltb offset 4294967296 && (ltb size 4294967296 && leb (offset + size) 4294967296)

module _ (offset size : ℕ) where
  pub offset-wide : 4294967296 ≤ offset → false ≡ Fit offset size
  offset-wide a = simp tests

  module _ (a : offset < 4294967296) where
    pub size-wide : 4294967296 ≤ size → false ≡ Fit offset size
    size-wide b = simp tests

    pub block-told : size < 4294967296 → leb (offset + size) 4294967296 ≡ Fit offset size
    block-told b = simp tests

pub ruleset fits-rows = (offset-wide, size-wide, block-told)

-- ---- the sum over extents

-- the extents from the i-th of them on
abbrev left : List ℕ → ℕ → ℕ → ℕ → List Extent
left xs first count i = extents_from xs (first + i) (count - i)

-- a loop over the extents has come to i with the sum so far: what is left of them decides
pub record Adding (xs : List ℕ) (first count i sum : ℕ) : Type 0 where
  pub within : i ≤ count
  pub fits : all_listed_fit (extents_from xs first count) ≡ all_listed_fit (left xs first count i)
  pub sums : sum_lengths (extents_from xs first count) ≡ sum + sum_lengths (left xs first count i)
  pub small : sum ≤ 4294967295 * i

pub add_start : (xs : List ℕ) (first count : ℕ) → Adding xs first count 0 0
add_start xs first count =
    let e : first + 0 ≡ first = omega arith in
    let f : count - 0 ≡ count = omega arith in
    record { within = omega arith; fits = rw (e, f); sums = rw (e, f) (omega arith); small = omega arith }

-- the two numbers of a listed extent that the rules speak of
abbrev offset_no : List ℕ → ℕ → ℕ
offset_no xs j = get_or xs (3 * j + 1) 0

abbrev size_no : List ℕ → ℕ → ℕ
size_no xs j = get_or xs (3 * j + 2) 0

module _ (xs : List ℕ) (first count i sum : ℕ) (v : Adding xs first count i sum) (h : i < count) (t : Bool)
    (r : t ≡ Fit (offset_no xs (first + i)) (size_no xs (first + i))) where
  -- the extent at hand, and the rest of them
  fits_next : (b : Bool) → t ≡ b → all_listed_fit (extents_from xs first count) ≡ (b && all_listed_fit (left xs first count (i + 1)))
  unfolding all_listed_fit listed_extent
  fits_next b f = v.fits ∙ rw (next-listed xs first count i h, sym r ∙ f)

  sums_next : sum_lengths (extents_from xs first count) ≡ sum + size_no xs (first + i) + sum_lengths (left xs first count (i + 1))
  unfolding sum_lengths listed_extent
  sums_next =
      let e : sum_lengths (left xs first count i) ≡ size_no xs (first + i) + sum_lengths (left xs first count (i + 1)) = rw (next-listed xs first count i h) in
      v.sums ∙ rw e (omega arith)

  pub total-past : (limit : ℕ) → not t ≡ true → false ≡ total_kept (extents_from xs first count) limit
  unfolding total_kept
  total-past limit n = rw (fits_next false (not-true t n))

  -- a length that fits its field, so that the sum stays small
  pub size_fits : not t ≡ false → size_no xs (first + i) < 4294967296
  size_fits n =
      let a = (and-iff (ltb (offset_no xs (first + i)) 4294967296) _).0 (was-true r n) in
      ltb-true (size_no xs (first + i)) 4294967296 ((and-iff (ltb (size_no xs (first + i)) 4294967296) _).0 a.1).0

  pub add-more : not t ≡ false → Adding xs first count (i + 1) (sum + size_no xs (first + i))
  add-more n = record {
    within = omega arith;
    fits = fits_next true (not-false t n);
    sums = sums_next;
    small = omega (arith, v.small, size_fits n);
  }

module _ (xs : List ℕ) (first count i sum : ℕ) (v : Adding xs first count i sum) (h : count ≤ i) where
  all-fit : all_listed_fit (extents_from xs first count) ≡ true
  unfolding all_listed_fit extents_from
  all-fit =
      let e : count - i ≡ 0 = omega arith in
      v.fits ∙ rw e

  all-added : sum_lengths (extents_from xs first count) ≡ sum
  unfolding sum_lengths extents_from
  all-added =
      let e : count - i ≡ 0 = omega arith in
      v.sums ∙ rw e (omega arith)

  pub total-told : (limit : ℕ) → leb sum limit ≡ total_kept (extents_from xs first count) limit
  unfolding total_kept
  total-told limit = rw (all-fit, all-added)
