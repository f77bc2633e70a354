-- The extents of a flat list: how many there are, and the first of those that are left.
-- Assumes nothing.
use Prim.Native.Nat.{ℕ, zero, suc, ◌+◌, ◌-◌, ◌<◌}
use mathlib.Core.Path.{◌≡◌, refl, ap}
use mathlib.Core.List.{List, ◌∷◌}
use native.Mathlib.Omega.{arith}
use lib.ListN.{length}
use Rattle.segment.specs.Write.{listed_extent, extents_from}

pub listed-counted : (xs : List ℕ) (j n : ℕ) → length (extents_from xs j n) ≡ n
unfolding extents_from
listed-counted xs j zero = refl
listed-counted xs j (suc n) = ap suc (listed-counted xs (suc j) n)

-- where i of count extents are passed
pub next-listed : (xs : List ℕ) (first count i : ℕ) → i < count
    → extents_from xs (first + i) (count - i) ≡ listed_extent xs (first + i) ∷ extents_from xs (first + (i + 1)) (count - (i + 1))
unfolding extents_from
next-listed xs first count i h =
    let e : count - i ≡ suc (count - (i + 1)) = omega arith in
    let f : first + (i + 1) ≡ suc (first + i) = omega arith in
    rw (e, f)
