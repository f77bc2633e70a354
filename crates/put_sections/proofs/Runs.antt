-- The extents of one item, put one behind the other: what stands in the output after some turns of the loop.
-- Assumes nothing.
use Prim.Native.Nat.{ℕ, zero, suc, ◌+◌, ◌*◌, ◌≤◌, ◌<◌}
use mathlib.Core.Path.{◌≡◌, refl, sym, ap, ◌∙◌}
use mathlib.Core.List.{List, [], ◌∷◌, ◌++◌, append-nil, append_assoc}
use native.Mathlib.Numerals.{add-one}
use native.Mathlib.Omega.{arith}
use lib.ListN.{length}
use Rattle.numbers.specs.Numbers.{put}
use Rattle.numbers.proofs.NumberLaws.{put-put, length-put, put-none}
use Rattle.segment.specs.declared.extent.Extent.{Extent}
use Rattle.segment.specs.Format.{extent_of, extents_at}
use Rattle.segment.specs.Tidy.{packed, extent_fields, extent_list_bytes}
use Rattle.segment.specs.Write.{listed_extent, extents_from}
use Rattle.form_laws.proofs.Structures.{extent-long, extents-long}
use Rattle.key.specs.declared.Kind.{Kind}
use Rattle.key.specs.declared.Kind.TheVariants.{Records, Entries}
use Rattle.put_item.specs.Lines.{Held, item_extent, item_extents}
use Rattle.put_item.proofs.ItemRows.{extents-length, extents-none}

-- ---- the extents of one item

list-snoc : (es : List Extent) (e : Extent) → extent_list_bytes (es ++ (e ∷ [])) ≡ extent_list_bytes es ++ packed (extent_fields e)
unfolding extent_list_bytes
list-snoc [] e = append-nil (packed (extent_fields e))
list-snoc (x ∷ es) e = rw (list-snoc es e) (sym (append_assoc (packed (extent_fields x)) (extent_list_bytes es) (packed (extent_fields e))))

at_snoc : (s : List ℕ) (first j : ℕ) → extents_at s first (suc j) ≡ extents_at s first j ++ (extent_of s (first + 16 * j) ∷ [])
unfolding extents_at
at_snoc s first zero = let e : first + 0 ≡ first = omega arith in rw e
at_snoc s first (suc j) =
    let e : first + 16 + 16 * j ≡ first + 16 * suc j = omega arith in
    ap (λ (t : List Extent). extent_of s first ∷ t) (at_snoc s (first + 16) j ∙ rw e)

from-snoc : (xs : List ℕ) (first j : ℕ) → extents_from xs first (suc j) ≡ extents_from xs first j ++ (listed_extent xs (first + j) ∷ [])
unfolding extents_from
from-snoc xs first zero = let e : first + 0 ≡ first = omega arith in rw e
from-snoc xs first (suc j) =
    let e : suc first + j ≡ first + suc j = omega arith in
    ap (λ (t : List Extent). listed_extent xs first ∷ t) (from-snoc xs (suc first) j ∙ rw e)

extents-snoc : (kind : Kind) (bytes extents : List ℕ) (first j : ℕ)
    → item_extents kind bytes extents first (j + 1) ≡ item_extents kind bytes extents first j ++ (item_extent kind bytes extents first j ∷ [])
unfolding item_extents item_extent
extents-snoc (Records from sh) bytes extents first j = rw add-one (at_snoc bytes first j)
extents-snoc Entries bytes extents first j = rw add-one (from-snoc extents first j)

-- fewer of them lie in their source too
pub held-fewer : (kind : Kind) (bytes extents : List ℕ) (first m n : ℕ) → m ≤ n → Held kind bytes extents first n → Held kind bytes extents first m
unfolding Held
held-fewer (Records from sh) bytes extents first m n l h = omega arith
held-fewer Entries bytes extents first m n l h = omega arith

pub record Listing (kind : Kind) (bytes extents out₀ : List ℕ) (first count at j : ℕ) (out : List ℕ) : Type 0 where
  pub within : j ≤ count
  pub same : length out ≡ length out₀
  pub done : out ≡ put out₀ at (extent_list_bytes (item_extents kind bytes extents first j))

module _ (kind : Kind) (bytes extents out₀ : List ℕ) (first count at : ℕ) where
  pub listing_start : Listing kind bytes extents out₀ first count at 0 out₀
  unfolding extent_list_bytes
  listing_start = record { within = omega arith; same = refl; done = rw (extents-none kind bytes extents first) (sym (put-none out₀ at)) }

  module _ (j : ℕ) (out : List ℕ) (l : Listing kind bytes extents out₀ first count at j out) where
    pub listing-more : (e : Extent) (out' : List ℕ) → j < count → packed (extent_fields e) ≡ packed (extent_fields (item_extent kind bytes extents first j))
        → out' ≡ put out (at + 16 * j) (packed (extent_fields e)) → at + 16 * count ≤ length out₀
        → Listing kind bytes extents out₀ first count at (j + 1) out'
    listing-more e out' h p q r =
        let bs : List ℕ = extent_list_bytes (item_extents kind bytes extents first j) in
        let i : length bs ≡ 16 * j = extents-long (item_extents kind bytes extents first j) ∙ ap (λ (m : ℕ). 16 * m) (extents-length kind bytes extents first j) in
        let w : put (put out₀ at bs) (at + 16 * j) (packed (extent_fields e)) ≡ put out₀ at (bs ++ packed (extent_fields e)) =
        rw i at (put-put out₀ at bs (packed (extent_fields e)) (omega arith)) in
        record {
          within = omega arith;
          same = ap length q ∙ length-put out (at + 16 * j) (packed (extent_fields e)) (omega (arith, l.same, extent-long e)) ∙ l.same;
          done = q ∙ ap (λ (o : List ℕ). put o (at + 16 * j) (packed (extent_fields e))) l.done ∙ w
              ∙ rw (extents-snoc kind bytes extents first j, list-snoc, p);
        }

    pub listing-done : count ≤ j → out ≡ put out₀ at (extent_list_bytes (item_extents kind bytes extents first count))
    listing-done h =
        let e : j ≡ count = omega (arith, l.within) in
        rw (← e) l.done
