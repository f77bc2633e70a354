-- Two parts of a list that stand in order are the merge of them.
-- Assumes nothing.
use Prim.Native.Nat.{ℕ, zero, suc, ◌-◌}
use mathlib.Core.Path.{◌≡◌, refl, sym, ap, ◌∙◌}
use mathlib.Core.Bool.{Bool, true}
use mathlib.Core.List.{List, [], ◌∷◌, ◌++◌}
use native.Mathlib.Omega.{arith}
use lib.ListN.{length, get_or, take, drop, length-drop, take-append-drop}
use lib.Seq.{drop-cons, take_all, get_or-take, length-take-le}
use Rattle.lists.specs.Lists.{Each, merge_by, Ascending}
use Rattle.lists.proofs.Sorting.{Total}
use Rattle.key_join.specs.Joins.{Joins}

-- the part after m numbers, as it is lent
abbrev pub second : List ℕ → ℕ → List ℕ
second w m = take (length w - m) (drop m w)

pub second-all : (w : List ℕ) (m : ℕ) → second w m ≡ drop m w
second-all w m = take_all (length w - m) (drop m w) (omega (arith, length-drop m w))

module _ (leq : ℕ → ℕ → Bool) where
  -- what comes after the last of an ascending list comes after each
  all-before : Total leq → (xs : List ℕ) (k y : ℕ) → length xs ≡ suc k → Ascending leq xs → leq (get_or xs k 0) y ≡ true → Each (λ (x : ℕ). leq x y ≡ true) xs
  unfolding Ascending Each
  all-before o [] k y n a h = tt
  all-before o (x ∷ []) zero y n a h = (h, tt)
  all-before o (x ∷ []) (suc k) y n a h = absurd (omega arith)
  all-before o (x ∷ z ∷ zs) zero y n a h = absurd (omega arith)
  all-before o (x ∷ z ∷ zs) (suc k) y n a h = let e = all-before o (z ∷ zs) k y (omega arith) a.1 h in (o.trans x z y a.0 e.0, e)

  goes_before : (xs : List ℕ) (y : ℕ) (ys : List ℕ) → Each (λ (x : ℕ). leq x y ≡ true) xs → merge_by leq xs (y ∷ ys) ≡ xs ++ (y ∷ ys)
  unfolding merge_by Each
  goes_before [] y ys e = refl
  goes_before (x ∷ xs) y ys e = simp e.0 (ap (λ (t : List ℕ). x ∷ t) (goes_before xs y ys e.1))

module _ (leq : ℕ → ℕ → Bool) (l : List ℕ) (m : ℕ) (j : Joins leq m l) where
  first_counted : m ≡ length (take m l)
  first_counted = sym (length-take-le m l (omega (arith, j.others)))

  pub stands-joined : Total leq → leq (get_or l (m - 1) 0) (get_or l m 0) ≡ true → l ≡ merge_by leq (take m l) (drop m l)
  stands-joined o h =
      let d = drop-cons l m 0 j.others in
      let g = get_or-take m l (m - 1) 0 (omega (arith, j.some)) in
      let e = all-before leq o (take m l) (m - 1) (get_or l m 0) (omega (arith, first_counted, j.some)) j.ascends (rw g h) in
      sym (rw d (goes_before leq (take m l) (get_or l m 0) (drop (suc m) l) e) ∙ take-append-drop m l)
