-- The lowest fall: what a turn of the pass shows, and that in the sorted order no key below it stands twice.
-- Assumes nothing.
use Prim.Native.Nat.{ℕ, min, zero, suc, ◌-◌, ◌≤◌, ◌<◌}
use mathlib.Core.Path.{◌≡◌, refl, sym, ap, ◌∙◌}
use mathlib.Core.Bool.{Bool, true, false}
use mathlib.Core.Logic.{⊎_elim}
use mathlib.Core.List.{List, [], ◌∷◌}
use native.Mathlib.Nat.{eq-or-lt_of_le, le_of_suc-le-suc}
use native.Mathlib.Omega.{arith}
use borrow.Author.Tests.{ltb-true, ltb-false}
use lib.Dec.{ltb}
use lib.ListN.{length, get_or}
use Rattle.lists.proofs.Tests.{by-test}
use Rattle.lists.specs.Lists.{lex_leq, sort_by, count_from, Ascending}
use Rattle.key.specs.declared.Kind.{Kind}
use Rattle.key.specs.Items.{item_key}
use Rattle.key.specs.ItemOrder.{item_leq}
use Rattle.lists.proofs.Arranged.{sort-permutes, sort-ascends}
use Rattle.lists.proofs.Each.{each_of, counted-iff, count-length, each-permuted}
use Rattle.lists.proofs.Lex.{lex-refl}
use Rattle.key.proofs.ItemOrder.{item-order}
use Rattle.lists.proofs.Sorting.{Total, sort-length}
use Rattle.key_sort.specs.Sorted.{Sorted}
use Rattle.key_repeat.specs.Falls.{lower, lowest_fall, sorted_fall}

-- ---- the pass

module _ (leq : ℕ → ℕ → Bool) (numbers : List ℕ) where
  pub none-passed : length numbers ≡ lowest_fall leq numbers 0
  unfolding lowest_fall
  none-passed = refl

  -- the number at k, after those before it
  module _ (j k least : ℕ) (s : k ≡ suc j) (told : least ≡ lowest_fall leq numbers j) where
    next : {x : ℕ} → x ≡ lower (leq (get_or numbers k 0) (get_or numbers j 0)) (get_or numbers k 0) least → x ≡ lowest_fall leq numbers k
    unfolding lowest_fall
    next e = e ∙ rw (s, told)

    pub climbs-on : leq (get_or numbers k 0) (get_or numbers j 0) ≡ false → least ≡ lowest_fall leq numbers k
    unfolding lower
    climbs-on e = next (rw e)

    pub falls-here : leq (get_or numbers k 0) (get_or numbers j 0) ≡ true → min least (get_or numbers k 0) ≡ lowest_fall leq numbers k
    unfolding lower
    falls-here e = next (by-test (ltb (get_or numbers k 0) least)
        (λ t. let l = ltb-true (get_or numbers k 0) least t in simp (e, t) (omega arith))
        (λ f. let l = ltb-false (get_or numbers k 0) least f in simp (e, f) (omega arith)))

  -- ---- how low it is

  lower-most : (b : Bool) (x y : ℕ) → lower b x y ≤ y
  unfolding lower
  lower-most true x y = by-test (ltb x y) (λ t. let l = ltb-true x y t in rw t (omega arith)) (λ f. rw f (omega arith))
  lower-most false x y = omega arith

  lower-falls : (b : Bool) (x y : ℕ) → b ≡ true → lower b x y ≤ x
  unfolding lower
  lower-falls b x y e = by-test (ltb x y) (λ t. rw (e, t) (omega arith)) (λ f. let l = ltb-false x y f in rw (e, f) l)

  fall-most : (k : ℕ) → lowest_fall leq numbers k ≤ length numbers
  unfolding lowest_fall
  fall-most zero = omega arith
  fall-most (suc k) = omega (arith, fall-most k, lower-most (leq (get_or numbers (suc k) 0) (get_or numbers k 0)) (get_or numbers (suc k) 0) (lowest_fall leq numbers k))

  fall-least : (k i : ℕ) → i < k → leq (get_or numbers (suc i) 0) (get_or numbers i 0) ≡ true → lowest_fall leq numbers k ≤ get_or numbers (suc i) 0
  unfolding lowest_fall
  fall-least zero i h e = absurd (omega arith)
  fall-least (suc k) i h e =
      let x = get_or numbers (suc k) 0 in
      let rest = lowest_fall leq numbers k in
      ⊎_elim
      (λ (q : i ≡ k). lower-falls-at q)
      (λ (q : i < k). omega (arith, fall-least k i q e, lower-most (leq x (get_or numbers k 0)) x rest))
      (eq-or-lt_of_le (le_of_suc-le-suc h))
    where
      lower-falls-at : i ≡ k → lower (leq (get_or numbers (suc k) 0) (get_or numbers k 0)) (get_or numbers (suc k) 0) (lowest_fall leq numbers k) ≤ get_or numbers (suc i) 0
      lower-falls-at q = rw q (lower-falls (leq (get_or numbers (suc k) 0) (get_or numbers k 0)) (get_or numbers (suc k) 0) (lowest_fall leq numbers k) (rw (← q) e))

-- ---- in an ascending list

module _ (leq : ℕ → ℕ → Bool) (o : Total leq) where
  self : (x : ℕ) → leq x x ≡ true
  self x = by-test (leq x x) (λ t. t) (o.total x x)

  ascends-to : (xs : List ℕ) (i j : ℕ) → Ascending leq xs → i ≤ j → j < length xs → leq (get_or xs i 0) (get_or xs j 0) ≡ true
  unfolding Ascending
  ascends-to [] i j a h l = absurd (omega arith)
  ascends-to (x ∷ xs) zero zero a h l = self x
  ascends-to (x ∷ xs) (suc i) zero a h l = absurd (omega arith)
  ascends-to (x ∷ []) i (suc j) a h l = absurd (omega arith)
  ascends-to (x ∷ z ∷ zs) zero (suc j) a h l = o.trans x z (get_or (z ∷ zs) j 0) a.0 (ascends-to (z ∷ zs) zero j a.1 (omega arith) (omega arith))
  ascends-to (x ∷ z ∷ zs) (suc i) (suc j) a h l = ascends-to (z ∷ zs) i j a.1 (omega arith) (omega arith)

  -- what comes no later than one before it comes no later than its neighbour, and so falls
  falls-after : (xs : List ℕ) (i j : ℕ) → Ascending leq xs → i < j → j < length xs → leq (get_or xs j 0) (get_or xs i 0) ≡ true
      → lowest_fall leq xs (length xs - 1) ≤ get_or xs j 0
  falls-after xs i zero a h l e = absurd (omega arith)
  falls-after xs i (suc j) a h l e =
      fall-least leq xs (length xs - 1) j (omega arith)
      (o.trans (get_or xs (suc j) 0) (get_or xs i 0) (get_or xs j 0) e (ascends-to xs i j a (omega arith) (omega arith)))

-- where a number stands in a list
record Place (xs : List ℕ) (x : ℕ) : Type 0 where
  at : ℕ
  inside : at < length xs
  here : get_or xs at 0 ≡ x

module _ (leq : ℕ → ℕ → Bool) (n : ℕ) where
  sorted : List ℕ
  sorted = sort_by leq (count_from 0 n)

  sorted-long : length sorted ≡ n
  unfolding sorted
  sorted-long = sort-length leq (count_from 0 n) ∙ count-length 0 n

  each_number : (x : ℕ) → x < n → Place sorted x
  unfolding sorted
  each_number x h =
      (counted-iff (Place sorted) n).0
      (each-permuted (Place sorted) (sort-permutes leq (count_from 0 n)) (each_of (Place sorted) sorted (λ i l. record { at = i; inside = l; here = refl }))) x h

  sorted-told : sorted_fall leq n ≡ lowest_fall leq sorted (length sorted - 1)
  unfolding sorted_fall sorted
  sorted-told = ap (λ (k : ℕ). lowest_fall leq sorted (k - 1)) (sym sorted-long)

  pub fall-within : sorted_fall leq n ≤ n
  fall-within = omega (arith, sorted-told, sorted-long, fall-most leq sorted (length sorted - 1))

  module _ (o : Total leq) where
    -- of two numbers that come no later than each other, one is no lower than the lowest fall
    not-both : (x y : ℕ) (p : Place sorted x) (q : Place sorted y) → p.at < q.at → leq y x ≡ true → sorted_fall leq n ≤ y
    unfolding sorted
    not-both x y p q l e =
        rw (sorted-told, ← q.here)
        (falls-after leq o sorted p.at q.at (sort-ascends leq o (count_from 0 n)) l q.inside (rw (p.here, q.here) e))

-- ---- items below the lowest fall

module _ (kind : Kind) (bytes list : List ℕ) (n : ℕ) where
  abbrev key : ℕ → List ℕ
  key = item_key kind bytes list

  abbrev leq : ℕ → ℕ → Bool
  leq = item_leq kind bytes list

  same-leq : (i j : ℕ) → key i ≡ key j → leq i j ≡ true
  unfolding item_leq
  same-leq i j e = ap (lex_leq (key i)) (sym e) ∙ lex-refl (key i)

  pub below-differ : (i j : ℕ) → i < sorted_fall leq n → j < sorted_fall leq n → key i ≡ key j → i ≡ j
  below-differ i j a b e =
      let o = item-order kind bytes list in
      let p = each_number leq n i (omega (arith, fall-within leq n)) in
      let q = each_number leq n j (omega (arith, fall-within leq n)) in
      let not-before : ¬ (p.at < q.at) = λ l. let m = not-both leq n o i j p q l (same-leq j i (sym e)) in omega arith in
      let not_after : ¬ (q.at < p.at) = λ l. let m = not-both leq n o j i q p l (same-leq i j e) in omega arith in
      let s : p.at ≡ q.at = omega (arith, not-before, not_after) in
      sym p.here ∙ ap (λ (k : ℕ). get_or (sorted leq n) k 0) s ∙ q.here

-- ---- sorting and passing

pub sorted-falls : (kind : Kind) (bytes list : List ℕ) (n : ℕ) (hints numbers : List ℕ) → Sorted kind bytes list n hints numbers
    → {r : ℕ} → r ≡ lowest_fall (item_leq kind bytes list) numbers (length numbers - 1) → r ≡ sorted_fall (item_leq kind bytes list) n
unfolding sorted
sorted-falls kind bytes list n hints numbers s e = e ∙ rw s.sorted (sym (sorted-told (item_leq kind bytes list) n))
