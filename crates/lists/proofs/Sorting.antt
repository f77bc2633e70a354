-- Laws of a list sorted by a test that is total and transitive: what a merge does to an insertion, and so merge sort's step.
-- Sorting keeps the length.
-- Assumes nothing.
use Prim.Native.Nat.{suc}
use mathlib.Core.Path.{◌≡◌, refl, ap, ◌∙◌}
use mathlib.Core.Bool.{Bool, true, false}
use mathlib.Core.List.{List, [], ◌∷◌, ◌++◌}
use lib.ListN.{length}
use Rattle.lists.proofs.Tests.{by-test, clash}
use Rattle.lists.specs.Lists.{insert, sort_by, merge_by}

pub record Total {A : Type 0} (leq : A → A → Bool) : Type 0 where
  pub total : (a b : A) → leq a b ≡ false → leq b a ≡ true
  pub trans : (a b c : A) → leq a b ≡ true → leq b c ≡ true → leq a c ≡ true

module _ {A : Type 0} (leq : A → A → Bool) where
  pub merge-nil : (xs : List A) → merge_by leq xs [] ≡ xs
  unfolding merge_by
  merge-nil [] = refl
  merge-nil (x ∷ xs) = refl

  merge-one : (x : A) (ys : List A) → merge_by leq (x ∷ []) ys ≡ insert leq x ys
  unfolding merge_by insert
  merge-one x [] = refl
  merge-one x (y ∷ ys) = by-test (leq x y) (λ t. simp t) (λ f. simp (f, merge-one x ys))

  module _ (o : Total leq) where
    -- x goes into the left list or into the whole, where both lists have an element left
    merge_step : (x a b : A) (ls rs : List A) → merge_by leq (insert leq x ls) (b ∷ rs) ≡ insert leq x (merge_by leq ls (b ∷ rs))
        → merge_by leq (insert leq x (a ∷ ls)) rs ≡ insert leq x (merge_by leq (a ∷ ls) rs)
        → merge_by leq (insert leq x (a ∷ ls)) (b ∷ rs) ≡ insert leq x (merge_by leq (a ∷ ls) (b ∷ rs))
    unfolding merge_by insert
    merge_step x a b ls rs l r = by-test (leq x a)
        (λ xa. by-test (leq x b)
        (λ xb. by-test (leq a b) (λ ab. simp (xa, xb, ab)) (λ ab. simp (xa, xb, ab)))
        (λ xb. by-test (leq a b) (λ ab. clash (leq x b) (o.trans x a b xa ab) xb) (λ ab. simp (xa, xb, ab) (ap (λ (t : List A). b ∷ t) (simp xa at r)))))
        (λ xa. by-test (leq a b)
        (λ ab. simp (xa, ab) (ap (λ (t : List A). a ∷ t) l))
        (λ ab. by-test (leq x b)
        (λ xb. clash (leq x a) (o.trans x b a xb (o.total a b ab)) xa)
        (λ xb. simp (xa, xb, ab) (ap (λ (t : List A). b ∷ t) (simp xa at r)))))

    merge-insert : (x : A) (ls rs : List A) → merge_by leq (insert leq x ls) rs ≡ insert leq x (merge_by leq ls rs)
    unfolding merge_by insert
    merge-insert x [] rs = merge-one x rs
    merge-insert x (a ∷ ls) [] = merge-nil (insert leq x (a ∷ ls))
    merge-insert x (a ∷ ls) (b ∷ rs) = merge_step x a b ls rs (merge-insert x ls (b ∷ rs)) (merge-insert x (a ∷ ls) rs)

    -- merge sort's step: the sorted halves, merged, are the whole, sorted
    pub merge-sorts : (xs ys : List A) → merge_by leq (sort_by leq xs) (sort_by leq ys) ≡ sort_by leq (xs ++ ys)
    unfolding merge_by sort_by
    merge-sorts [] ys = refl
    merge-sorts (x ∷ xs) ys = merge-insert x (sort_by leq xs) (sort_by leq ys) ∙ ap (insert leq x) (merge-sorts xs ys)

  insert-length : (x : A) (ys : List A) → length (insert leq x ys) ≡ suc (length ys)
  unfolding insert
  insert-length x [] = refl
  insert-length x (y ∷ ys) = by-test (leq x y) (λ t. simp t) (λ f. simp f (ap suc (insert-length x ys)))

  pub sort-length : (xs : List A) → length (sort_by leq xs) ≡ length xs
  unfolding sort_by
  sort-length [] = refl
  sort-length (x ∷ xs) = insert-length x (sort_by leq xs) ∙ ap suc (sort-length xs)
