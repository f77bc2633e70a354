-- Items measured one after the other: what is counted, and what the rest comes to, are the whole.
-- Assumes nothing.
use Prim.Native.Nat.{ℕ, ◌+◌, ◌*◌, ◌≤◌, ◌<◌, max}
use mathlib.Core.Path.{◌≡◌, sym, ap, ◌∙◌}
use mathlib.Core.List.{List, []}
use native.Mathlib.Numerals.{add-one}
use native.Mathlib.Omega.{arith}
use lib.ListN.{length, get_or, drop, drop_of_length-le}
use lib.Seq.{drop-cons}
use Rattle.segment.specs.declared.entry.Entry.{Entry}
use Rattle.key.specs.declared.Kind.{Kind}
use Rattle.lists.specs.Lists.{Each}
use Rattle.lists.proofs.Each.{each_at}
use Rattle.put_item.specs.declared.Sizes.{Sizes}
use Rattle.put_item.specs.Lines.{item_entry, Counted, measured}

-- k of the items are counted
pub record Measuring (kind : Kind) (bytes list numbers : List ℕ) (k d x v : ℕ) : Type 0 where
  pub within : k ≤ length numbers
  pub digests : (measured kind bytes list numbers).digests ≡ d + (measured kind bytes list (drop k numbers)).digests
  pub extents : (measured kind bytes list numbers).extents ≡ x + (measured kind bytes list (drop k numbers)).extents
  pub visibility : (measured kind bytes list numbers).visibility ≡ max v (measured kind bytes list (drop k numbers)).visibility
  pub short : d ≤ 1024 * k
  pub few : x ≤ 4294967296 * k

pub measuring-start : (kind : Kind) (bytes list numbers : List ℕ) → Measuring kind bytes list numbers 0 0 0 0
measuring-start kind bytes list numbers = record {
  within = omega arith;
  digests = omega arith;
  extents = omega arith;
  visibility = omega arith;
  short = omega arith;
  few = omega arith;
}

module _ (kind : Kind) (bytes list numbers : List ℕ) (k d x v : ℕ) (m : Measuring kind bytes list numbers k d x v) where
  module _ (h : k < length numbers) (e : Entry) (q : e ≡ item_entry kind bytes list (get_or numbers k 0)) where
    next : measured kind bytes list (drop k numbers) ≡ record {
      digests = e.digest_length + (measured kind bytes list (drop (k + 1) numbers)).digests;
      extents = e.extent_count + (measured kind bytes list (drop (k + 1) numbers)).extents;
      visibility = max e.visibility (measured kind bytes list (drop (k + 1) numbers)).visibility;
    }
    unfolding measured
    next = rw (drop-cons numbers k 0 h, add-one, q)

    pub next_small : Each (Counted kind bytes list) numbers → (e.digest_length ≤ 1024) × (e.extent_count < 4294967296)
    next_small c =
        let n = (each_at (Counted kind bytes list) numbers k c h).narrow in
        (rw q n.digest, rw q n.extents)

    pub measuring-more : (w : ℕ) → w ≡ max v e.visibility → Each (Counted kind bytes list) numbers
        → Measuring kind bytes list numbers (k + 1) (d + e.digest_length) (x + e.extent_count) w
    measuring-more w f c =
        let n = next_small c in
        let a : (measured kind bytes list (drop k numbers)).digests ≡ e.digest_length + (measured kind bytes list (drop (k + 1) numbers)).digests = ap (λ (s : Sizes). s.digests) next in
        let b : (measured kind bytes list (drop k numbers)).extents ≡ e.extent_count + (measured kind bytes list (drop (k + 1) numbers)).extents = ap (λ (s : Sizes). s.extents) next in
        let g : (measured kind bytes list (drop k numbers)).visibility ≡ max e.visibility (measured kind bytes list (drop (k + 1) numbers)).visibility = ap (λ (s : Sizes). s.visibility) next in
        record {
          within = omega arith;
          digests = omega (arith, m.digests);
          extents = omega (arith, m.extents);
          visibility = omega (arith, m.visibility);
          short = omega (arith, m.short);
          few = omega (arith, m.few);
        }

  pub measuring-done : length numbers ≤ k → record { digests = d; extents = x; visibility = v } ≡ measured kind bytes list numbers
  unfolding measured
  measuring-done h =
      let z : drop k numbers ≡ [] = drop_of_length-le numbers h in
      let a : d ≡ (measured kind bytes list numbers).digests = sym (m.digests ∙ rw z (omega arith)) in
      let b : x ≡ (measured kind bytes list numbers).extents = sym (m.extents ∙ rw z (omega arith)) in
      let g : v ≡ (measured kind bytes list numbers).visibility = sym (m.visibility ∙ rw z (omega arith)) in
      λ j. record { digests = a j; extents = b j; visibility = g j }
