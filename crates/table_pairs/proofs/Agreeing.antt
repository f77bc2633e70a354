-- On every good table the pairs as structs and the table by value agree: a length is allowed exactly when the pairs say it is the hash id's, and
-- the hash id is unknown exactly when no length is allowed. And the promise of `length_in` allows one answer only.
-- Assumes nothing.
use Prim.Native.Nat.{ℕ}
use mathlib.Core.Path.{◌≡◌, refl, sym, ap, ◌∙◌}
use mathlib.Core.Bool.{Bool, true, false, ◌&&◌, ◌||◌, false≢true}
use mathlib.Core.Logic.{◌↔◌}
use mathlib.Core.List.{List, [], ◌∷◌}
use borrow.Author.Tests.{not-true as flag-false}
use lib.Dec.{eqb}
use lib.ListN.{length, take}
use Rattle.answer.specs.Answers.{Answer}
use Rattle.lists.proofs.Tests.{by-test, and-iff, eqb-iff}
use Rattle.table.specs.Table.{stands, good_pairs, good_table, allows, by_value}
use Rattle.table.proofs.Pairs.{front-is}
use Rattle.table_pairs.specs.declared.Pair.{Pair}
use Rattle.std.specs.Prelude.{Option, Some, None}
use Rattle.table_pairs.specs.Pairs.{length_in, length_answer, length_of, pair_numbers}

-- a hash id that stands in no pair has no length
none_allowed : (pairs : List Pair) (hash n : ℕ) → stands (pair_numbers pairs) hash ≡ false → allows (pair_numbers pairs) hash n ≡ false
unfolding stands allows pair_numbers
none_allowed [] hash n e = refl
none_allowed (p ∷ pairs) hash n e = go (eqb p.hash_id hash) (none_allowed pairs hash n) e
  where
    go : (b : Bool) → (stands (pair_numbers pairs) hash ≡ false → allows (pair_numbers pairs) hash n ≡ false) → (b || stands (pair_numbers pairs) hash) ≡ false
        → ((b && eqb p.digest_length n) || allows (pair_numbers pairs) hash n) ≡ false
    go true later e = cc
    go false later e = later e

or-none : (b c : Bool) → c ≡ false → (b || c) ≡ true ↔ b ≡ true
or-none true c e = (λ f. refl, λ f. refl)
or-none false c e = (λ f. sym e ∙ f, λ f. cc)

known_same : (m n : ℕ) → eqb m n ≡ true ↔ Some m ≡ Some n
known_same m n = (λ e. ap Some ((eqb-iff m n).0 e), λ e. (eqb-iff m n).1 (cc))

known_in : (pairs : List Pair) (hash n : ℕ) → good_pairs (pair_numbers pairs) ≡ true → allows (pair_numbers pairs) hash n ≡ true ↔ length_in pairs hash ≡ Some n
unfolding good_pairs allows pair_numbers length_in
known_in [] hash n g = (λ e. cc, λ e. cc)
known_in (p ∷ pairs) hash n g =
    let rest = (simp and-iff at g).1 in
    by-test (eqb p.hash_id hash)
    (λ same.
    let is : hash ≡ p.hash_id = sym ((eqb-iff p.hash_id hash).0 same) in
    let alone : stands (pair_numbers pairs) hash ≡ false = ap (stands (pair_numbers pairs)) is ∙ flag-false (stands (pair_numbers pairs) p.hash_id) rest.0 in
    let last = or-none (eqb p.digest_length n) (allows (pair_numbers pairs) hash n) (none_allowed pairs hash n alone) in
    rw same (λ e. (known_same p.digest_length n).0 (last.0 e), λ e. last.1 ((known_same p.digest_length n).1 e)))
    (λ other. rw other (known_in pairs hash n rest.1))

-- known, or not
told : (r : Option ℕ) → ((n : ℕ) → r ≡ Some n → ⊥) → r ≡ None
told (Some n) h = absurd (h n refl)
told None h = refl

module _ (pairs : List Pair) (hash : ℕ) (g : good_table (pair_numbers pairs) ≡ true) where
  pub known-iff : (n : ℕ) → allows (pair_numbers pairs) hash n ≡ true ↔ length_in pairs hash ≡ Some n
  unfolding good_table
  known-iff n = known_in pairs hash n (simp and-iff at g).1.1

  pub unknown-iff : ((n : ℕ) → allows (pair_numbers pairs) hash n ≡ false) ↔ length_in pairs hash ≡ None
  unknown-iff = (
    λ none. told (length_in pairs hash) (λ n e. false≢true (sym (none n) ∙ (known-iff n).1 e)),
    λ e n. by-test (allows (pair_numbers pairs) hash n) (λ a. let z : Some n ≡ None = sym ((known-iff n).0 a) ∙ e in cc) (λ a. a),
  )

-- the same of the table by value that the pair_numbers list is copied into
module _ (pairs : List Pair) (hash : ℕ) (numbers : List ℕ) (e : numbers ≡ by_value (pair_numbers pairs)) (g : good_table (pair_numbers pairs) ≡ true) where
  pub table-known-iff : (n : ℕ) → allows (take (length (pair_numbers pairs)) numbers) hash n ≡ true ↔ length_in pairs hash ≡ Some n
  table-known-iff n = rw (front-is (pair_numbers pairs) numbers e) (known-iff pairs hash g n)

  pub table-unknown-iff : ((n : ℕ) → allows (take (length (pair_numbers pairs)) numbers) hash n ≡ false) ↔ length_in pairs hash ≡ None
  table-unknown-iff = rw (front-is (pair_numbers pairs) numbers e) (unknown-iff pairs hash g)

-- ---- one answer only

-- the length of an answer's values
length_from : List ℕ → Option ℕ
length_from [] = None
length_from (n ∷ ns) = Some n

length_back : (r : Option ℕ) → length_from (length_answer r).values ≡ r
unfolding length_from
length_back (Some n) = refl
length_back None = refl

pub length-settled : (r q : Option ℕ) → length_answer r ≡ length_answer q → r ≡ q
length-settled r q e = sym (length_back r) ∙ ap (λ (a : Answer). length_from a.values) e ∙ length_back q

pub one-length : (pairs : List Pair) (hash : ℕ) (r q : Option ℕ) → length_answer r ≡ length_of pairs hash → length_answer q ≡ length_of pairs hash → r ≡ q
one-length pairs hash r q e f = length-settled r q (e ∙ sym f)
