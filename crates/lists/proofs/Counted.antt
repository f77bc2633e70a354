-- What holds of each element, or of each two, of a list f k, f (k + 1), .., n of them: said of the list and said of the numbers.
-- Assumes nothing.
use Prim.Native.Nat.{ℕ, zero, suc, ◌+◌, ◌≤◌, ◌<◌}
use mathlib.Core.Path.{◌≡◌, sym, ap, subst, ◌∙◌}
use mathlib.Core.Logic.Iff
use mathlib.Core.Logic.{◌↔◌, by_cases, ⊎_elim, ∥∥₁_elim}
use mathlib.Core.List.Pairwise
use mathlib.Core.List.{
  List,
  [],
  ◌∷◌,
  map,
  Mem,
  Memᴰ,
  mem-cons_of_mem,
  Pairwise,
  rel_of_Pairwise-cons,
}
use native.Mathlib.Decide.{ℕ_discrete}
use native.Mathlib.Omega.{arith}
use lib.ListN.{length, get_or, length-map}
use Rattle.lists.specs.Lists.{count_from, Each}
use Rattle.lists.proofs.Each.{counted-iff, count-length}

module _ {A : Type 0} (f : ℕ → A) where
  pub counted-long : (k n : ℕ) → length (map f (count_from k n)) ≡ n
  counted-long k n = length-map (count_from k n) f ∙ count-length k n

  -- the members are the elements
  pub counted-at : (k n i : ℕ) (d : A) → i < n → get_or (map f (count_from k n)) i d ≡ f (k + i)
  unfolding count_from
  counted-at k zero i d h = absurd (omega arith)
  counted-at k (suc n) zero d h = ap f (omega arith)
  counted-at k (suc n) (suc i) d h = counted-at (suc k) n i d (omega arith) ∙ ap f (omega arith)

  member : (k n i : ℕ) → k ≤ i → i < k + n → Mem (f i) (map f (count_from k n))
  unfolding count_from
  member k zero i l u = absurd (omega arith)
  member k (suc n) i l u =
      by_cases (ℕ_discrete i k)
      (λ (e : i ≡ k). ∣ mathlib.Core.List.Memᴰ.head (ap f e) ∣₁)
      (λ (e : ¬ (i ≡ k)). mem-cons_of_mem (f k) (member (suc k) n i (omega arith) (omega arith)))

  number : (k n : ℕ) {a : A} → Memᴰ a (map f (count_from k n)) → (i : ℕ) × (k ≤ i) × (i < k + n) × (a ≡ f i)
  unfolding count_from
  number k zero m = absurd (mathlib.Core.List.Memᴰ.not-nil m)
  number k (suc n) {a} m =
      ⊎_elim
      (λ (e : a ≡ f k). (k, omega arith, omega arith, e))
      (λ (m' : Memᴰ a (map f (count_from (suc k) n))). let i = number (suc k) n m' in (i.0, omega arith, omega arith, i.3))
      (mathlib.Core.List.Memᴰ.cases_cons m)

  module _ (P : A → Type 0) where
    each_map : (l : List ℕ) → Each P (map f l) ↔ Each (λ (i : ℕ). P (f i)) l
    unfolding Each
    each_map [] = Iff.rfl
    each_map (x ∷ xs) = let e = each_map xs in (λ h. (h.0, e.0 h.1), λ h. (h.0, e.1 h.1))

    pub each-iff : (n : ℕ) → Each P (map f (count_from 0 n)) ↔ ((i : ℕ) → i < n → P (f i))
    each-iff n =
        let e = each_map (count_from 0 n) in
        let c = counted-iff (λ (i : ℕ). P (f i)) n in
        (λ h. c.0 (e.0 h), λ h. e.1 (c.1 h))

  module _ (R : A → A → Type 0) (prop : (a b : A) → IsProp (R a b)) where
    counted-pairwise : (k n : ℕ) → ((i j : ℕ) → k ≤ i → i < j → j < k + n → R (f i) (f j)) → Pairwise R (map f (count_from k n))
    unfolding count_from
    counted-pairwise k zero h = Pairwise.nil
    counted-pairwise k (suc n) h =
        Pairwise.cons
        (λ a m. ∥∥₁_elim m (prop (f k) a)
        (λ d. let j = number (suc k) n d in subst (R (f k)) (sym j.3) (h k j.0 (omega arith) (omega arith) (omega arith))))
        (counted-pairwise (suc k) n (λ i j l v u. h i j (omega arith) v (omega arith)))

    pairwise-counted : (k n : ℕ) → Pairwise R (map f (count_from k n)) → (i j : ℕ) → k ≤ i → i < j → j < k + n → R (f i) (f j)
    unfolding count_from
    pairwise-counted k zero p i j l v u = absurd (omega arith)
    pairwise-counted k (suc n) p i j l v u =
        by_cases (ℕ_discrete i k)
        (λ (q : i ≡ k). rw q (rel_of_Pairwise-cons p (member (suc k) n j (omega arith) (omega arith))))
        (λ (q : ¬ (i ≡ k)). pairwise-counted (suc k) n (Pairwise.of_cons p) i j (omega arith) v (omega arith))

    pub pairwise_iff : (n : ℕ) → Pairwise R (map f (count_from 0 n)) ↔ ((i j : ℕ) → i < j → j < n → R (f i) (f j))
    pairwise_iff n = (
      λ p i j v u. pairwise-counted 0 n p i j (omega arith) v (omega arith),
      λ h. counted-pairwise 0 n (λ i j l v u. h i j v (omega arith)),
    )
