-- What a turn of the merge shows.
-- Assumes nothing.
use Prim.Native.Nat.{ℕ, ◌+◌, ◌≤◌, ◌<◌}
use mathlib.Core.Path.{◌≡◌, refl, sym, ap, ◌∙◌}
use mathlib.Core.Bool.{Bool, true, false}
use mathlib.Core.List.{List, [], ◌∷◌, ◌++◌, append-nil}
use native.Mathlib.Numerals.{add-one}
use native.Mathlib.Omega.{arith}
use borrow.Author.Tests.{ltb-true, ltb-false}
use lib.Dec.{ltb}
use lib.ListN.{length, get_or, set, take, drop, drop_of_length-le}
use lib.Seq.{drop-cons, take-suc-set, append_snoc}
use Rattle.lists.proofs.Tests.{by-test, clash}
use Rattle.lists.specs.Lists.{merge_by, left_next}
use Rattle.lists.proofs.Sorting.{merge-nil}

-- ---- the side that goes on

module _ (leq : ℕ → ℕ → Bool) (a b : List ℕ) (i j : ℕ) where
  pub left_ended : length a ≤ i → false ≡ left_next leq (drop i a) (drop j b)
  unfolding left_next
  left_ended h = rw (drop_of_length-le a h)

  pub right-ended : i < length a → length b ≤ j → true ≡ left_next leq (drop i a) (drop j b)
  unfolding left_next
  right-ended h k = rw (drop-cons a i 0 h, drop_of_length-le b k)

  pub test-decides : {r : Bool} → i < length a → j < length b → r ≡ leq (get_or a i 0) (get_or b j 0) → r ≡ left_next leq (drop i a) (drop j b)
  unfolding left_next
  test-decides h k e = rw (drop-cons a i 0 h, drop-cons b j 0 k) e

  module _ (r : Bool) (e : r ≡ left_next leq (drop i a) (drop j b)) where
    pub left-stands : r ≡ true → i < length a
    left-stands t = by-test (ltb i (length a)) (ltb-true i (length a)) (λ f. clash r t (e ∙ sym (left_ended (ltb-false i (length a) f))))

    pub right-stands : r ≡ false → i ≤ length a → i + j < length a + length b → j < length b
    right-stands f h k = by-test (ltb j (length b)) (ltb-true j (length b))
        (λ g. let l = ltb-false j (length b) g in clash r (e ∙ sym (right-ended (omega arith) l)) f)

-- ---- a turn of the merge

module _ (leq : ℕ → ℕ → Bool) where
  goes_left : (x : ℕ) (xs ys : List ℕ) → left_next leq (x ∷ xs) ys ≡ true → merge_by leq (x ∷ xs) ys ≡ x ∷ merge_by leq xs ys
  unfolding left_next merge_by
  goes_left x xs [] t = ap (λ (l : List ℕ). x ∷ l) (sym (merge-nil leq xs))
  goes_left x xs (y ∷ ys) t = simp t

  goes-right : (xs : List ℕ) (y : ℕ) (ys : List ℕ) → left_next leq xs (y ∷ ys) ≡ false → merge_by leq xs (y ∷ ys) ≡ y ∷ merge_by leq xs ys
  unfolding left_next merge_by
  goes-right [] y ys f = refl
  goes-right (x ∷ xs) y ys f = simp f

-- one more number is done, and one fewer is left
store : (out : List ℕ) (k v : ℕ) (rest : List ℕ) → k < length out → take k out ++ (v ∷ rest) ≡ take (k + 1) (set out k v) ++ rest
store out k v rest h = rw (add-one, take-suc-set out k v h, append_snoc)

pub merge-starts : (leq : ℕ → ℕ → Bool) (a b out : List ℕ) → merge_by leq a b ≡ take (0 + 0) out ++ merge_by leq (drop 0 a) (drop 0 b)
merge-starts leq a b out = refl

module _ (leq : ℕ → ℕ → Bool) (a b out out₀ : List ℕ) (i j : ℕ)
    (done : merge_by leq a b ≡ take (i + j) out ++ merge_by leq (drop i a) (drop j b))
    (room : length a + length b ≤ length out₀) (same : length out ≡ length out₀) where
  module _ (r : Bool) (e : r ≡ left_next leq (drop i a) (drop j b)) where
    pub next-left : r ≡ true → j ≤ length b
        → merge_by leq a b ≡ take (i + 1 + j) (set out (i + j) (get_or a i 0)) ++ merge_by leq (drop (i + 1) a) (drop j b)
    next-left t hj =
        let hi = left-stands leq a b i j r e t in
        let d : drop i a ≡ get_or a i 0 ∷ drop (i + 1) a = rw add-one (drop-cons a i 0 hi) in
        let l : left_next leq (get_or a i 0 ∷ drop (i + 1) a) (drop j b) ≡ true = cc in
        let n : i + 1 + j ≡ i + j + 1 = omega arith in
        rw (done, d, goes_left leq (get_or a i 0) (drop (i + 1) a) (drop j b) l, n)
        (store out (i + j) (get_or a i 0) (merge_by leq (drop (i + 1) a) (drop j b)) (omega arith))

    pub next-right : r ≡ false → i ≤ length a → i + j < length a + length b
        → merge_by leq a b ≡ take (i + (j + 1)) (set out (i + j) (get_or b j 0)) ++ merge_by leq (drop i a) (drop (j + 1) b)
    next-right f hi hk =
        let hj = right-stands leq a b i j r e f hi hk in
        let d : drop j b ≡ get_or b j 0 ∷ drop (j + 1) b = rw add-one (drop-cons b j 0 hj) in
        let l : left_next leq (drop i a) (get_or b j 0 ∷ drop (j + 1) b) ≡ false = cc in
        let n : i + (j + 1) ≡ i + j + 1 = omega arith in
        rw (done, d, goes-right leq (drop i a) (get_or b j 0) (drop (j + 1) b) l, n)
        (store out (i + j) (get_or b j 0) (merge_by leq (drop i a) (drop (j + 1) b)) (omega arith))

  pub merged : i ≤ length a → j ≤ length b → length a + length b ≤ i + j → take (length a + length b) out ≡ merge_by leq a b
  unfolding merge_by
  merged hi hj h =
      let ha : length a ≤ i = omega arith in
      let hb : length b ≤ j = omega arith in
      let n : length a + length b ≡ i + j = omega arith in
      rw (done, n, drop_of_length-le a ha, drop_of_length-le b hb) (sym (append-nil (take (i + j) out)))
