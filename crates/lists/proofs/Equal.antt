-- Two lists that are equal, and how that is told.
-- Assumes nothing.
use Prim.Native.Nat.{ℕ}
use mathlib.Core.Path.{◌≡◌, refl, sym}
use mathlib.Core.Bool.{true, false}
use mathlib.Core.Logic.{◌↔◌}
use mathlib.Core.List.{List, [], ◌∷◌}
use borrow.Author.Tests.{eqb-true, eq-eqb}
use lib.Dec.{eqb}
use Rattle.lists.proofs.Tests.{and-iff, if-not}
use Rattle.lists.specs.Lists.{eq_list}

eq_list-same : (xs ys : List ℕ) → eq_list xs ys ≡ true → xs ≡ ys
unfolding eq_list
eq_list-same [] [] e = refl
eq_list-same [] (y ∷ ys) e = cc
eq_list-same (x ∷ xs) [] e = cc
eq_list-same (x ∷ xs) (y ∷ ys) e =
    let b = (and-iff (eqb x y) (eq_list xs ys)).0 e in
    let h = eqb-true x y b.0 in
    let t = eq_list-same xs ys b.1 in
    cc

pub eq_list-self : (xs : List ℕ) → eq_list xs xs ≡ true
unfolding eq_list
eq_list-self [] = refl
eq_list-self (x ∷ xs) = rw (eq-eqb x x refl) (eq_list-self xs)

same-eq_list : (xs ys : List ℕ) → xs ≡ ys → eq_list xs ys ≡ true
same-eq_list xs ys e = rw (← e) (eq_list-self xs)

-- the test says just whether the lists are equal
pub eq_list-iff : (xs ys : List ℕ) → eq_list xs ys ≡ true ↔ xs ≡ ys
eq_list-iff xs ys = (eq_list-same xs ys, same-eq_list xs ys)

pub equal : (xs ys : List ℕ) → xs ≡ ys → true ≡ eq_list xs ys
equal xs ys e = sym (same-eq_list xs ys e)

pub unequal : (xs ys : List ℕ) → (xs ≡ ys → ⊥) → false ≡ eq_list xs ys
unequal xs ys h = sym (if-not (eq_list xs ys) (λ e. h (eq_list-same xs ys e)))
