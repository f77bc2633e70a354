-- An accepted segment is its own tidy form exactly when it is tidy.
-- Assumes nothing.
use Prim.Native.Nat.{ℕ, zero, suc, ◌+◌, ◌≤◌, ◌<◌}
use mathlib.Core.Path.{◌≡◌, sym, ap, ◌∙◌}
use mathlib.Core.Bool.{Bool, true}
use mathlib.Core.Logic.{◌↔◌, by_cases}
use mathlib.Core.List.{List, map}
use native.Mathlib.Decide.{ℕ_discrete}
use native.Mathlib.Omega.{arith}
use lib.ListN.{length}
use Rattle.numbers.specs.Numbers.{Bytes}
use Rattle.segment.specs.Format.{v3, file_limit, header_of, record_count}
use Rattle.lists.specs.Lists.{sort_by, count_from, Ascending}
use Rattle.segment.specs.Check.{key_no, check_of}
use Rattle.segment.specs.Meets.{Meets}
use Rattle.segment.specs.Meaning.{Meaning, Row, row_of, row_no, rows_of, meaning_of}
use Rattle.segment.specs.Tidy.{row_leq, form_of, tidy_form}
use Rattle.segment.specs.Write.{write_of}
use Rattle.lists.proofs.Arranged.{sort-keeps}
use Rattle.theorem_demands.specs.Answered.{accepted}
use Rattle.theorem_demands.specs.Tidying.{Wrote, tidy_bytes, Keeps}
use Rattle.theorem_demands.specs.Asking.{request_for}
use Rattle.theorem_demands.proofs.Rulebook.{accepts-iff}
use Rattle.theorem_demands.proofs.Tidying.{form-keeps, accepted-form}
use Rattle.theorem_demands.proofs.Writing.{write-itself}
use Rattle.theorem_tidiness.specs.Tidiness.{IsTidy}
use Rattle.theorem_tidiness.proofs.Forming.{all, heading, bloom, packed-form}
use Rattle.theorem_tidiness.proofs.Standing.{form-packed}

-- a list that is counted ascends exactly when each comes no later than the next
module _ {A : Type 0} (leq : A → A → Bool) (f : ℕ → A) where
  ascending-next : (n k : ℕ) → Ascending leq (map f (count_from k n)) → (i : ℕ) → k ≤ i → suc i < k + n → leq (f i) (f (suc i)) ≡ true
  unfolding Ascending count_from
  ascending-next zero k a i l u = absurd (omega arith)
  ascending-next (suc zero) k a i l u = absurd (omega arith)
  ascending-next (suc (suc n)) k a i l u =
      by_cases (ℕ_discrete i k) (λ (e : i ≡ k). rw e a.0)
      (λ (e : ¬ (i ≡ k)). ascending-next (suc n) (suc k) a.1 i (omega arith) (omega arith))

  next-ascending : (n k : ℕ) → ((i : ℕ) → k ≤ i → suc i < k + n → leq (f i) (f (suc i)) ≡ true) → Ascending leq (map f (count_from k n))
  unfolding Ascending count_from
  next-ascending zero k h = tt
  next-ascending (suc zero) k h = tt
  next-ascending (suc (suc n)) k h =
      (h k (omega arith) (omega arith), next-ascending (suc n) (suc k) (λ i l u. h i (omega arith) (omega arith)))

module _ (pairs s : List ℕ) (b : Bytes s) (e : check_of pairs s ≡ accepted) where
  m : Meets v3 pairs s
  m = ((accepts-iff pairs s).0 e).1

  abbrev rows : List Row
  rows = all pairs s b m

  -- the tidy form is the form of the rows in their order
  tidy-is : tidy_bytes s ≡ form_of v3 (heading pairs s b m) (bloom pairs s b m) (sort_by row_leq rows)
  unfolding tidy_form meaning_of rows_of
  tidy-is = λ j. form_of v3 (heading pairs s b m) (bloom pairs s b m) (sort_by row_leq rows)

  sorted : Ascending row_leq rows → form_of v3 (heading pairs s b m) (bloom pairs s b m) (sort_by row_leq rows) ≡ form_of v3 (heading pairs s b m) (bloom pairs s b m) rows
  sorted a = ap (form_of v3 (heading pairs s b m) (bloom pairs s b m)) (sort-keeps row_leq rows a)

  tidy-ascends : tidy_bytes s ≡ s → Ascending row_leq rows
  unfolding meaning_of rows_of
  tidy-ascends t =
      let small : length (tidy_bytes s) ≤ file_limit = rw t m.size.most in
      let keeps : Keeps pairs (meaning_of v3 s) (tidy_bytes s) =
      form-keeps pairs (meaning_of v3 s) (tidy_bytes s) ((accepts-iff pairs s).0 e).0 (accepted-form pairs s b e small) in
      rw t at keeps.ascends

  rows-ascend : Ascending row_leq rows ↔ ((k : ℕ) → suc k < record_count (header_of s) → row_leq (row_no v3 s (header_of s) k) (row_no v3 s (header_of s) (suc k)) ≡ true)
  rows-ascend = (
    λ a k l. ascending-next row_leq (row_no v3 s (header_of s)) (record_count (header_of s)) 0 a k (omega arith) (omega arith),
    λ h. next-ascending row_leq (row_no v3 s (header_of s)) (record_count (header_of s)) 0 (λ k l u. h k (omega arith)),
  )

  to-tidy : tidy_bytes s ≡ s → IsTidy s
  unfolding key_no row_no row_of
  to-tidy t =
      let a = tidy-ascends t in
      record { ascends = rows-ascend.0 a; packed = form-packed pairs s b m (sym (sorted a) ∙ sym tidy-is ∙ t) }

  from-tidy : IsTidy s → tidy_bytes s ≡ s
  unfolding key_no row_no row_of
  from-tidy t = tidy-is ∙ sorted (rows-ascend.1 t.ascends) ∙ packed-form pairs s b m t.packed

  pub tidy-iff : tidy_bytes s ≡ s ↔ IsTidy s
  tidy-iff = (to-tidy, from-tidy)

-- so what tidy and write leave is tidy
pub kept-is-tidy : (pairs : List ℕ) (m : Meaning) (r : List ℕ) → Keeps pairs m r → IsTidy r
kept-is-tidy pairs m r k = (tidy-iff pairs r k.bytes k.accepts).0 k.itself

-- and a tidy segment, read record by record and written back, is the same bytes
pub tidy-comes-back : (pairs s out : List ℕ) → Bytes s → check_of pairs s ≡ accepted → IsTidy s → length s ≤ length out
    → Wrote (write_of pairs (request_for (meaning_of v3 s)) out) out s
tidy-comes-back pairs s out b e t = write-itself pairs s out b e ((tidy-iff pairs s b e).1 t)
