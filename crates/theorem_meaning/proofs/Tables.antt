-- The table's test is the table's rule, and what the table allows is what one of its pairs says.
-- Assumes nothing.
use Prim.Native.Nat.{ℕ, zero, suc, ◌+◌, ◌*◌, ◌%◌, ◌≤◌, ◌<◌}
use mathlib.Core.Path.{◌≡◌, refl, sym, ap, ◌∙◌}
use mathlib.Core.Bool.{Bool, true, false, not, ◌&&◌, false≢true}
use mathlib.Core.Logic.Iff
use mathlib.Core.Logic.{◌↔◌}
use mathlib.Core.List.{List, [], ◌∷◌}
use native.Mathlib.Omega.{arith}
use borrow.Author.Tests.{eq-eqb, ne_eqb}
use lib.Dec.{eqb}
use lib.ListN.{length, get_or}
use Rattle.lists.proofs.Tests.{by-test, and-iff, leb-iff, ltb_iff, eqb-iff}
use Rattle.table.specs.Table.{stands, good_pair, good_pairs, good_table, allows}
use Rattle.theorem_meaning.specs.Tables.{pair_count, hash_no, length_no, TableMeets, Allowed}

-- ---- the pairs behind the first

module _ (x n : ℕ) (pairs : List ℕ) where
  next-hash : (i : ℕ) → hash_no (x ∷ n ∷ pairs) (suc i) ≡ hash_no pairs i
  next-hash i = let e : 2 * suc i ≡ suc (suc (2 * i)) = omega arith in ap (λ (k : ℕ). get_or (x ∷ n ∷ pairs) k 0) e

  next-length : (i : ℕ) → length_no (x ∷ n ∷ pairs) (suc i) ≡ length_no pairs i
  next-length i = let e : 2 * suc i + 1 ≡ suc (suc (2 * i + 1)) = omega arith in ap (λ (k : ℕ). get_or (x ∷ n ∷ pairs) k 0) e

  one_more : pair_count (x ∷ n ∷ pairs) ≡ suc (pair_count pairs)
  one_more = omega arith

-- ---- a hash id that stands in the list

stands_at : (pairs : List ℕ) (i : ℕ) → i < pair_count pairs → stands pairs (hash_no pairs i) ≡ true
unfolding stands
stands_at [] i l = absurd (omega arith)
stands_at (x ∷ []) i l = absurd (omega arith)
stands_at (x ∷ n ∷ pairs) zero l = rw (eq-eqb x x refl)
stands_at (x ∷ n ∷ pairs) (suc i) l =
    by-test (eqb x (hash_no (x ∷ n ∷ pairs) (suc i))) (λ e. rw e)
    (λ e. rw e (ap (stands pairs) (next-hash x n pairs i) ∙ stands_at pairs i (omega (arith, one_more x n pairs))))

stands-nowhere : (pairs : List ℕ) (hash : ℕ) → ((i : ℕ) → i < pair_count pairs → ¬ (hash_no pairs i ≡ hash)) → stands pairs hash ≡ false
unfolding stands
stands-nowhere [] hash h = refl
stands-nowhere (x ∷ []) hash h = refl
stands-nowhere (x ∷ n ∷ pairs) hash h =
    rw (ne_eqb x hash (h 0 (omega (arith, one_more x n pairs))))
    (stands-nowhere pairs hash (λ i l e. h (suc i) (omega (arith, one_more x n pairs)) (next-hash x n pairs i ∙ e)))

-- ---- whole pairs, each good, with no hash id twice

record PairsMeet (pairs : List ℕ) : Type 0 where
  whole : length pairs % 2 ≡ 0
  good : (i : ℕ) → i < pair_count pairs → good_pair (hash_no pairs i) (length_no pairs i) ≡ true
  once : (i j : ℕ) → i < pair_count pairs → j < pair_count pairs → hash_no pairs i ≡ hash_no pairs j → i ≡ j

none-meets : PairsMeet []
none-meets = record { whole = refl; good = λ i l. absurd (omega arith); once = λ i j l. absurd (omega arith) }

module _ (x n : ℕ) (pairs : List ℕ) where
  more-meets : good_pair x n ≡ true → stands pairs x ≡ false → PairsMeet pairs → PairsMeet (x ∷ n ∷ pairs)
  more-meets g f m = record { whole = omega (arith, m.whole); good = good-at; once = once-at }
    where
      here : (j : ℕ) → suc j < pair_count (x ∷ n ∷ pairs) → ¬ (x ≡ hash_no (x ∷ n ∷ pairs) (suc j))
      here j l e =
          let same : x ≡ hash_no pairs j = e ∙ next-hash x n pairs j in
          false≢true (sym f ∙ ap (stands pairs) same ∙ stands_at pairs j (omega (arith, one_more x n pairs)))

      good-at : (i : ℕ) → i < pair_count (x ∷ n ∷ pairs) → good_pair (hash_no (x ∷ n ∷ pairs) i) (length_no (x ∷ n ∷ pairs) i) ≡ true
      good-at zero l = g
      good-at (suc i) l = rw (next-hash x n pairs i, next-length x n pairs i) (m.good i (omega (arith, one_more x n pairs)))

      once-at : (i j : ℕ) → i < pair_count (x ∷ n ∷ pairs) → j < pair_count (x ∷ n ∷ pairs)
          → hash_no (x ∷ n ∷ pairs) i ≡ hash_no (x ∷ n ∷ pairs) j → i ≡ j
      once-at zero zero l u e = refl
      once-at zero (suc j) l u e = absurd (here j u e)
      once-at (suc i) zero l u e = absurd (here i l (sym e))
      once-at (suc i) (suc j) l u e =
          ap suc (m.once i j (omega (arith, one_more x n pairs)) (omega (arith, one_more x n pairs)) (sym (next-hash x n pairs i) ∙ e ∙ next-hash x n pairs j))

  module _ (m : PairsMeet (x ∷ n ∷ pairs)) where
    rest_meets : PairsMeet pairs
    rest_meets = record {
      whole = omega (arith, m.whole);
      good = λ i l. rw (next-hash x n pairs i, next-length x n pairs i) at (m.good (suc i) (omega (arith, one_more x n pairs)));
      once = λ i j l u e.
          let same : suc i ≡ suc j = m.once (suc i) (suc j) (omega (arith, one_more x n pairs)) (omega (arith, one_more x n pairs)) (next-hash x n pairs i ∙ e ∙ sym (next-hash x n pairs j)) in
          omega arith;
    }

    first-once : stands pairs x ≡ false
    first-once =
        stands-nowhere pairs x
        (λ i l e. let same : suc i ≡ 0 = m.once (suc i) 0 (omega (arith, one_more x n pairs)) (omega (arith, one_more x n pairs)) (next-hash x n pairs i ∙ e) in
        absurd (omega arith))

not_flag : (b : Bool) → not b ≡ true ↔ b ≡ false
not_flag true = (λ e. absurd (false≢true e), λ e. sym e)
not_flag false = (λ e. refl, λ e. refl)

good-meets : (pairs : List ℕ) → good_pairs pairs ≡ true → PairsMeet pairs
unfolding good_pairs
good-meets [] e = none-meets
good-meets (x ∷ []) e = absurd (false≢true e)
good-meets (x ∷ n ∷ pairs) e =
    let t = (and-iff (good_pair x n) (not (stands pairs x) && good_pairs pairs)).0 e in
    let u = (and-iff (not (stands pairs x)) (good_pairs pairs)).0 t.1 in
    more-meets x n pairs t.0 ((not_flag (stands pairs x)).0 u.0) (good-meets pairs u.1)

meets-good : (pairs : List ℕ) → PairsMeet pairs → good_pairs pairs ≡ true
unfolding good_pairs
meets-good [] m = refl
meets-good (x ∷ []) m = absurd (omega (arith, m.whole))
meets-good (x ∷ n ∷ pairs) m =
    rw (m.good 0 (omega (arith, one_more x n pairs)), first-once x n pairs m, meets-good pairs (rest_meets x n pairs m))

-- ---- the table's rule

pair-iff : (x n : ℕ) → good_pair x n ≡ true ↔ (x < 4294967296) × ((1 ≤ n) × (n ≤ 1024))
pair-iff x n = simp (and-iff, ltb_iff, leb-iff) Iff.rfl

pub table-meets-iff : (pairs : List ℕ) → good_table pairs ≡ true ↔ TableMeets pairs
unfolding good_table
table-meets-iff pairs = (
  λ e.
      let t = simp (and-iff, leb-iff) at e in
      let m : PairsMeet pairs = good-meets pairs t.1.1 in
      record {
        whole = m.whole;
        some = omega (arith, m.whole);
        most = omega arith;
        fits = λ i l. ((pair-iff (hash_no pairs i) (length_no pairs i)).0 (m.good i l)).0;
        least = λ i l. ((pair-iff (hash_no pairs i) (length_no pairs i)).0 (m.good i l)).1.0;
        longest = λ i l. ((pair-iff (hash_no pairs i) (length_no pairs i)).0 (m.good i l)).1.1;
        once = m.once;
      },
  λ m.
      let p : PairsMeet pairs = record {
        whole = m.whole;
        good = λ i l. (pair-iff (hash_no pairs i) (length_no pairs i)).1 (m.fits i l, (m.least i l, m.longest i l));
        once = m.once;
      } in
      simp (and-iff, leb-iff) (omega (arith, m.some), (omega (arith, m.most, m.whole), meets-good pairs p)),
)

-- ---- what it allows

allowed-next : (x n : ℕ) (pairs : List ℕ) (hash len : ℕ) → Allowed pairs hash len → Allowed (x ∷ n ∷ pairs) hash len
allowed-next x n pairs hash len a = record {
  at = suc a.at;
  within = omega (arith, a.within, one_more x n pairs);
  same = next-hash x n pairs a.at ∙ a.same;
  long = next-length x n pairs a.at ∙ a.long;
}

allows-some : (pairs : List ℕ) (hash len : ℕ) → allows pairs hash len ≡ true → Allowed pairs hash len
unfolding allows
allows-some [] hash len e = absurd (false≢true e)
allows-some (x ∷ []) hash len e = absurd (false≢true e)
allows-some (x ∷ n ∷ pairs) hash len e =
    by-test (eqb x hash && eqb n len)
    (λ t. let p = simp (and-iff, eqb-iff) at t in record { at = 0; within = omega (arith, one_more x n pairs); same = p.0; long = p.1 })
    (λ f. allowed-next x n pairs hash len (allows-some pairs hash len (rw f at e)))

allowed_at : (pairs : List ℕ) (i : ℕ) → i < pair_count pairs → allows pairs (hash_no pairs i) (length_no pairs i) ≡ true
unfolding allows
allowed_at [] i l = absurd (omega arith)
allowed_at (x ∷ []) i l = absurd (omega arith)
allowed_at (x ∷ n ∷ pairs) zero l = rw (eq-eqb x x refl, eq-eqb n n refl)
allowed_at (x ∷ n ∷ pairs) (suc i) l =
    by-test (eqb x (hash_no (x ∷ n ∷ pairs) (suc i)) && eqb n (length_no (x ∷ n ∷ pairs) (suc i))) (λ e. rw e)
    (λ e. rw e (rw (next-hash x n pairs i, next-length x n pairs i) (allowed_at pairs i (omega (arith, one_more x n pairs)))))

pub allowed-iff : (pairs : List ℕ) (hash len : ℕ) → allows pairs hash len ≡ true ↔ Allowed pairs hash len
allowed-iff pairs hash len = (allows-some pairs hash len, λ a. rw (← a.same, ← a.long) (allowed_at pairs a.at a.within))
