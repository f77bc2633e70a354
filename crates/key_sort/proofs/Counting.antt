-- Numbers counted up: what a turn of the counting shows.
-- Assumes nothing.
use Prim.Native.Nat.{ℕ, zero, suc, ◌+◌, ◌<◌}
use mathlib.Core.Path.{◌≡◌, refl, sym, ap, ◌∙◌}
use mathlib.Core.List.{List, [], ◌∷◌, ◌++◌}
use native.Mathlib.Numerals.{add-one}
use native.Mathlib.Omega.{arith}
use lib.ListN.{length, set, take}
use lib.Seq.{take-suc-set}
use Rattle.lists.specs.Lists.{count_from}

counted_next : (k n : ℕ) → count_from k (suc n) ≡ count_from k n ++ ((k + n) ∷ [])
unfolding count_from
counted_next k zero = let e : k + 0 ≡ k = omega arith in rw e
counted_next k (suc n) = let e : suc k + n ≡ k + suc n = omega arith in ap (λ (t : List ℕ). k ∷ t) (counted_next (suc k) n ∙ rw e)

pub none-counted : [] ≡ count_from 0 0
unfolding count_from
none-counted = refl

pub one-more : (out : List ℕ) (i : ℕ) → take i out ≡ count_from 0 i → i < length out → take (i + 1) (set out i i) ≡ count_from 0 (i + 1)
one-more out i e h =
    let z : 0 + i ≡ i = omega arith in
    rw (add-one, take-suc-set out i i h, e) (sym (rw z at (counted_next 0 i)))
