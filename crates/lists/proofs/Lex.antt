-- The order of lists of numbers is total, transitive, antisymmetric and reflexive. So is any order by such a list, save that two
-- things with one list come in either order.
-- Assumes nothing.
use Prim.Native.Nat.{ℕ, ◌<◌}
use mathlib.Core.Path.{◌≡◌, refl, sym}
use mathlib.Core.Bool.{true, false}
use mathlib.Core.Logic.{◌⊎◌, inl, inr, ⊎_elim}
use mathlib.Core.List.{List, [], ◌∷◌}
use native.Mathlib.Omega.{arith}
use borrow.Author.Tests.{lt-ltb, le-ltb, ltb-true, ltb-false, eqb-true, eqb-false, eq-eqb}
use lib.Dec.{ltb, eqb}
use Rattle.lists.proofs.Tests.{by-test, clash}
use Rattle.lists.specs.Lists.{lex_leq}
use Rattle.lists.proofs.Sorting.{Total}

module _ (x y : ℕ) (xs ys : List ℕ) where
  -- what either answer says of the first numbers and of what follows them
  leq-inv : lex_leq (x ∷ xs) (y ∷ ys) ≡ true → (x < y) ⊎ ((x ≡ y) × (lex_leq xs ys ≡ true))
  unfolding lex_leq
  leq-inv h = by-test (ltb x y) (λ t. inl (ltb-true x y t))
      (λ f. by-test (eqb x y) (λ t. inr (eqb-true x y t, simp (f, t) at h)) (λ g. clash false (simp (f, g) at h) refl))

  gt-inv : lex_leq (x ∷ xs) (y ∷ ys) ≡ false → (y < x) ⊎ ((x ≡ y) × (lex_leq xs ys ≡ false))
  unfolding lex_leq
  gt-inv h = by-test (ltb x y) (λ t. clash true refl (simp t at h))
      (λ f. by-test (eqb x y)
      (λ t. inr (eqb-true x y t, simp (f, t) at h))
      (λ g. let l = ltb-false x y f in let n = eqb-false x y g in inl (omega arith)))

  lt-leq : x < y → lex_leq (x ∷ xs) (y ∷ ys) ≡ true
  unfolding lex_leq
  lt-leq h = simp (lt-ltb x y h)

  eq-leq : x ≡ y → lex_leq xs ys ≡ true → lex_leq (x ∷ xs) (y ∷ ys) ≡ true
  unfolding lex_leq
  eq-leq e h = simp (le-ltb x y (omega arith), eq-eqb x y e) h

pub lex-refl : (xs : List ℕ) → lex_leq xs xs ≡ true
unfolding lex_leq
lex-refl [] = refl
lex-refl (x ∷ xs) = eq-leq x x xs xs refl (lex-refl xs)

pub lex-total : (xs ys : List ℕ) → lex_leq xs ys ≡ false → lex_leq ys xs ≡ true
unfolding lex_leq
lex-total [] ys h = clash true refl h
lex-total (x ∷ xs) [] h = refl
lex-total (x ∷ xs) (y ∷ ys) h =
    ⊎_elim (λ l. lt-leq y x ys xs l) (λ p. eq-leq y x ys xs (sym p.0) (lex-total xs ys p.1)) (gt-inv x y xs ys h)

pub lex-trans : (xs ys zs : List ℕ) → lex_leq xs ys ≡ true → lex_leq ys zs ≡ true → lex_leq xs zs ≡ true
unfolding lex_leq
lex-trans [] ys zs h k = refl
lex-trans (x ∷ xs) [] zs h k = clash false h refl
lex-trans (x ∷ xs) (y ∷ ys) [] h k = k
lex-trans (x ∷ xs) (y ∷ ys) (z ∷ zs) h k =
    ⊎_elim
    (λ l. ⊎_elim (λ m. lt-leq x z xs zs (omega arith)) (λ q. lt-leq x z xs zs (omega arith)) (leq-inv y z ys zs k))
    (λ p. ⊎_elim (λ m. lt-leq x z xs zs (omega arith)) (λ q. eq-leq x z xs zs (omega arith) (lex-trans xs ys zs p.1 q.1)) (leq-inv y z ys zs k))
    (leq-inv x y xs ys h)

pub lex-anti : (xs ys : List ℕ) → lex_leq xs ys ≡ true → lex_leq ys xs ≡ true → xs ≡ ys
unfolding lex_leq
lex-anti [] [] h k = refl
lex-anti [] (y ∷ ys) h k = clash false k refl
lex-anti (x ∷ xs) [] h k = clash false h refl
lex-anti (x ∷ xs) (y ∷ ys) h k =
    ⊎_elim
    (λ l. ⊎_elim (λ m. absurd (omega arith)) (λ q. absurd (omega arith)) (leq-inv y x ys xs k))
    (λ p. ⊎_elim (λ m. absurd (omega arith)) (λ q. let t = lex-anti xs ys p.1 q.1 in cc) (leq-inv y x ys xs k))
    (leq-inv x y xs ys h)

-- an order by a key
pub key-order : {A : Type 0} (key : A → List ℕ) → Total (λ (a b : A). lex_leq (key a) (key b))
key-order key = record {
  total = λ a b. lex-total (key a) (key b);
  trans = λ a b c. lex-trans (key a) (key b) (key c);
}
