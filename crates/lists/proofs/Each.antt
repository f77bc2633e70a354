-- What holds of each element of a list: at a place, of a part, of two lists in one, of the elements in another order, of the numbers
-- counted up; and how many these are.
-- Assumes nothing.
use Prim.Native.Nat.{ℕ, zero, suc, ◌+◌, ◌≤◌, ◌<◌}
use mathlib.Core.Path.{◌≡◌, refl, ap}
use mathlib.Core.Logic.{◌↔◌, by_cases}
use mathlib.Core.List.{List, [], ◌∷◌, ◌++◌, Permᴰ}
use native.Mathlib.Decide.{ℕ_discrete}
use native.Mathlib.Nat.{le_of_suc-le-suc, not-suc-le-zero}
use native.Mathlib.Omega.{arith}
use lib.ListN.{length, get_or, take, drop}
use Rattle.lists.specs.Lists.{count_from, Each}

module _ (P : ℕ → Type 0) where
  pub each_at : (l : List ℕ) (i : ℕ) → Each P l → i < length l → P (get_or l i 0)
  unfolding Each
  each_at [] i e h = absurd (not-suc-le-zero h)
  each_at (x ∷ xs) zero e h = e.0
  each_at (x ∷ xs) (suc i) e h = each_at xs i e.1 (le_of_suc-le-suc h)

  pub each_of : (l : List ℕ) → ((i : ℕ) → i < length l → P (get_or l i 0)) → Each P l
  unfolding Each
  each_of [] h = tt
  each_of (x ∷ xs) h = (h 0 (omega arith), each_of xs (λ i l. h (suc i) (omega arith)))

  pub each_take : (m : ℕ) (l : List ℕ) → Each P l → Each P (take m l)
  unfolding Each
  each_take zero l e = tt
  each_take (suc m) [] e = tt
  each_take (suc m) (x ∷ xs) e = (e.0, each_take m xs e.1)

  pub each-drop : (m : ℕ) (l : List ℕ) → Each P l → Each P (drop m l)
  unfolding Each
  each-drop zero l e = e
  each-drop (suc m) [] e = tt
  each-drop (suc m) (x ∷ xs) e = each-drop m xs e.1

  pub each_append : (l r : List ℕ) → Each P l → Each P r → Each P (l ++ r)
  unfolding Each
  each_append [] r e f = f
  each_append (x ∷ xs) r e f = (e.0, each_append xs r e.1 f)

  -- of the numbers k, k + 1, .., n of them
  counted-each : (k n : ℕ) → ((i : ℕ) → k ≤ i → i < k + n → P i) → Each P (count_from k n)
  unfolding Each count_from
  counted-each k zero h = tt
  counted-each k (suc n) h = (h k (omega arith) (omega arith), counted-each (suc k) n (λ i l u. h i (omega arith) (omega arith)))

  each-counted : (k n : ℕ) → Each P (count_from k n) → (i : ℕ) → k ≤ i → i < k + n → P i
  unfolding Each count_from
  each-counted k zero e i l u = absurd (omega arith)
  each-counted k (suc n) e i l u =
      by_cases (ℕ_discrete i k)
      (λ (q : i ≡ k). rw q e.0)
      (λ (q : ¬ (i ≡ k)). each-counted (suc k) n e.1 i (omega arith) (omega arith))

  -- of the first n numbers
  pub counted-iff : (n : ℕ) → Each P (count_from 0 n) ↔ ((i : ℕ) → i < n → P i)
  counted-iff n = (λ e i l. each-counted 0 n e i (omega arith) (omega arith), λ h. counted-each 0 n (λ i l u. h i (omega arith)))

pub each-permuted : {A : Type 0} (P : A → Type 0) {xs ys : List A} → Permᴰ xs ys → Each P xs → Each P ys
unfolding Each
each-permuted P Permᴰ.nil e = e
each-permuted P (Permᴰ.cons h p) e = (rw (← h) e.0, each-permuted P p e.1)
each-permuted P (Permᴰ.swap h k) e = (rw (← k) e.1.0, (rw (← h) e.0, e.1.1))
each-permuted P (Permᴰ.trans p q) e = each-permuted P q (each-permuted P p e)

-- ---- how many are counted up

pub count-length : (k n : ℕ) → length (count_from k n) ≡ n
unfolding count_from
count-length k zero = refl
count-length k (suc n) = ap suc (count-length (suc k) n)
