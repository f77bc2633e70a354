-- What a list of pairs says once the pair in front has been looked at, and what is known of a table.
-- Assumes nothing.
use Prim.Native.Nat.{ℕ, suc, ◌+◌, ◌-◌, ◌≤◌, ◌<◌}
use mathlib.Core.Path.{◌≡◌, refl, sym, ap, ◌∙◌}
use mathlib.Core.Bool.{true, false, ◌&&◌, ◌||◌, not, false≢true}
use mathlib.Core.Logic.{⊎_elim}
use mathlib.Core.List.{List, [], ◌∷◌, ◌++◌}
use native.Mathlib.Nat.{le_refl}
use native.Mathlib.Numerals.{add-one}
use native.Mathlib.Omega.{arith}
use borrow.Author.Tests.{leb-true}
use lib.Dec.{leb, eqb}
use lib.ListN.{length, get_or, take, drop, set, replicate, length-append, length-replicate}
use lib.Seq.{take_all, take-suc, set_at, take_at, length-take-le, append_snoc}
use Rattle.std.proofs.lemmas.List.{drop-replicate}
use Rattle.lists.proofs.Tests.{tests, and-iff, or-either, leb-iff, ltb_iff, eqb-iff}
use Rattle.table.specs.Table.{stands, good_pair, good_pairs, good_table, allows, by_value}

-- ---- a pair in front, and what says no more

module _ (pair after : List ℕ) (two : length pair ≡ 2) where
  in_front : pair ++ after ≡ get_or pair 0 0 ∷ get_or pair 1 0 ∷ after
  in_front = both pair two
    where
      both : (pair : List ℕ) → length pair ≡ 2 → pair ++ after ≡ get_or pair 0 0 ∷ get_or pair 1 0 ∷ after
      both [] e = cc
      both (x ∷ []) e = cc
      both (x ∷ n ∷ []) e = refl
      both (x ∷ n ∷ y ∷ q) e = absurd (omega arith)

  pub stands_pair : (hash : ℕ) → stands (pair ++ after) hash ≡ (eqb (get_or pair 0 0) hash || stands after hash)
  unfolding stands
  stands_pair hash = rw in_front

  pub allows_pair : (hash len : ℕ) → allows (pair ++ after) hash len ≡ ((eqb (get_or pair 0 0) hash && eqb (get_or pair 1 0) len) || allows after hash len)
  unfolding allows
  allows_pair hash len = rw in_front

pub stands_none : (q : List ℕ) (hash : ℕ) → length q < 2 → stands q hash ≡ false
unfolding stands
stands_none [] hash h = refl
stands_none (x ∷ []) hash h = refl
stands_none (x ∷ y ∷ q) hash h = absurd (omega arith)

pub allows_none : (q : List ℕ) (hash len : ℕ) → length q < 2 → allows q hash len ≡ false
unfolding allows
allows_none [] hash len h = refl
allows_none (x ∷ []) hash len h = refl
allows_none (x ∷ y ∷ q) hash len h = absurd (omega arith)

-- the same of a list that is cut after its first two numbers
pub good_more : (p : List ℕ) → 2 ≤ length p
    → good_pairs p
    ≡ (good_pair (get_or p 0 0) (get_or p 1 0) && (not (stands (take (length p - 2) (drop 2 p)) (get_or p 0 0)) && good_pairs (take (length p - 2) (drop 2 p))))
unfolding good_pairs
good_more [] h = absurd (omega arith)
good_more (x ∷ []) h = absurd (omega arith)
good_more (x ∷ n ∷ q) h = rw (take_all (suc (suc (length q)) - 2) q (omega arith))

-- and of fewer than two numbers
pub good_last : (p : List ℕ) → length p < 2 → good_pairs p ≡ eqb (length p) 0
unfolding good_pairs
good_last [] h = refl
good_last (x ∷ []) h = refl
good_last (x ∷ n ∷ q) h = absurd (omega arith)

-- ---- the whole table

pub empty-table : (p : List ℕ) → length p < 1 → false ≡ good_table p
unfolding good_table
empty-table p h = simp tests

pub long-table : (p : List ℕ) → 1 ≤ length p → 32 < length p → false ≡ good_table p
unfolding good_table
long-table p h l = simp tests

-- a hash id and a length that a good table allows fit their fields
pairs_small : (pairs : List ℕ) (hash len : ℕ) → good_pairs pairs ≡ true → allows pairs hash len ≡ true → (hash < 4294967296) × (len ≤ 1024)
unfolding good_pairs allows
pairs_small [] hash len g a = absurd (false≢true a)
pairs_small (x ∷ []) hash len g a = absurd (false≢true a)
pairs_small (x ∷ n ∷ pairs) hash len g a =
    let good = simp (and-iff, ltb_iff, leb-iff) at g in
    ⊎_elim
    (λ (here : (eqb x hash && eqb n len) ≡ true). let same = simp (and-iff, eqb-iff) at here in (omega arith, omega arith))
    (λ (later : allows pairs hash len ≡ true). pairs_small pairs hash len good.1.1 later)
    (or-either (eqb x hash && eqb n len) (allows pairs hash len) a)

pub allowed-small : (pairs : List ℕ) (hash len : ℕ) → good_table pairs ≡ true → allows pairs hash len ≡ true → (hash < 4294967296) × (len ≤ 1024)
unfolding good_table
allowed-small pairs hash len g a = pairs_small pairs hash len (simp and-iff at g).1.1 a

-- ---- the table by value

pub sized : (p : List ℕ) → good_table p ≡ true → length p ≤ 32
unfolding good_table
sized p e =
    leb-true (length p) 32 ((and-iff (leb (length p) 32) (good_pairs p)).0 ((and-iff (leb 1 (length p)) (leb (length p) 32 && good_pairs p)).0 e).1).0

-- one number more is copied to the front of zeros
copied_more : (n : ℕ) (p : List ℕ) (i : ℕ) → i < n → i < length p
    → set (take i p ++ replicate (n - i) 0) i (get_or p i 0) ≡ take (i + 1) p ++ replicate (n - (i + 1)) 0
copied_more n p i h l =
    let e : n - i ≡ suc (n - (i + 1)) = omega arith in
    rw (e, set_at (take i p) 0 (replicate (n - (i + 1)) 0) (get_or p i 0) i (length-take-le i p (omega arith)), add-one, take-suc p i 0)
    (sym (append_snoc (take i p) (get_or p i 0) (replicate (n - suc i) 0)))

-- i numbers of a list have been copied to the front of zeros
pub record Filling (p words : List ℕ) (i : ℕ) : Type 0 where
  pub within : i ≤ length p
  pub front : words ≡ take i p ++ replicate (32 - i) 0

module _ (p words : List ℕ) (i : ℕ) (c : Filling p words i) where
  pub filling-more : (v : ℕ) → i < 32 → i < length p → v ≡ get_or p i 0 → Filling p (set words i v) (i + 1)
  filling-more v h l f = record { within = omega arith; front = rw f (rw c.front (copied_more 32 p i h l)) }

  pub filling-done : length p ≤ i → words ≡ by_value p
  unfolding by_value
  filling-done l =
      let n : i ≡ length p = omega (arith, c.within) in
      c.front ∙ rw (n, take_all (length p) p (le_refl _))

-- what a caller knows of a table that was copied: the list stands in front, and so many of its numbers can be lent
module _ (p numbers : List ℕ) (e : numbers ≡ by_value p) where
  pub front-is : take (length p) numbers ≡ p
  unfolding by_value
  front-is = rw e (take_at p (replicate (32 - length p) 0) (length p) refl)

  -- the same, of the list that was copied and of as many numbers as it has, however both are said
  pub copied_front : (q : List ℕ) (count : ℕ) → p ≡ q → count ≡ length q → take count numbers ≡ q
  copied_front q count f g = rw (g, ← f) front-is

  module _ (h : length p ≤ 32) where
    pub copied_whole : 32 ≡ length numbers
    unfolding by_value
    copied_whole = rw (e, length-append, length-replicate) (omega arith)

    -- any number of them up to 32 can be lent; which of these are the pairs is said above
    module _ (count : ℕ) (l : count ≤ 32) where
      pub copied_fits : count ≤ length numbers
      copied_fits = omega (arith, copied_whole)

      pub copied_part : count ≡ length (take count numbers)
      copied_part = sym (length-take-le count numbers copied_fits)

  module _ (count : ℕ) (h : count ≤ length p) where
    pub in-front : count ≤ length numbers
    unfolding by_value
    in-front = rw e (simp length-append (omega arith))

    pub front_long : count ≡ length (take count numbers)
    front_long = sym (length-take-le count numbers in-front)

-- a list put over the front of 32 zeros is the table by value, and so is what is taken of it in its whole length
pub put_over : (p q : List ℕ) → q ≡ p → q ++ drop (length p) (replicate 32 0) ≡ by_value p
unfolding by_value
put_over p q e = rw e (ap (λ (t : List ℕ). p ++ t) (drop-replicate (length p) 32 0))

pub put_taken : (p q : List ℕ) → q ≡ take (length p) p → q ++ drop (length p) (replicate 32 0) ≡ by_value p
put_taken p q e = put_over p q (e ∙ take_all (length p) p (le_refl _))
