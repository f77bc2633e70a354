-- Sums over the records of an accepted segment: what its rows' digests and extents come to is what its records say.
--   digest-long, extents-long   of one row
--   digests-sum, extents-sum    of a run of them
-- Assumes nothing.
use Prim.Native.Nat.{ℕ, zero, suc, ◌+◌, ◌*◌, ◌≤◌, ◌<◌}
use mathlib.Core.Path.{◌≡◌, sym}
use mathlib.Core.Logic.{by_cases}
use mathlib.Core.List.{List, map}
use native.Mathlib.Decide.{ℕ_discrete}
use native.Mathlib.Omega.{arith}
use borrow.Author.Tests.{eqb-true}
use lib.ListN.{length, drop, length-append, length-drop}
use lib.Seq.{length-take-le}
use Rattle.lists.proofs.Tests.{by-test}
use Rattle.segment.specs.declared.record.Record.{Record}
use Rattle.segment.specs.Format.{v3, header_of, record_count, digests_offset, extents_offset}
use Rattle.segment.specs.Check.{is_gone, digest_in}
use Rattle.segment.specs.Meets.{Meets}
use Rattle.segment.specs.Meaning.{Row, row_extents, row_of, row_no}
use Rattle.lists.specs.Lists.{count_from}
use Rattle.segment.specs.Tidy.{digest_bytes, extent_total}
use Rattle.segment.proofs.Extents.{extents-counted}
use Rattle.theorem_demands.specs.Refusals.{record_in}
use Rattle.theorem_tidiness.specs.Tidiness.{sum_below, digest_length, digests_before, extents_of, extents_before}

-- where a record's digest lies, and its extents, where they are packed
abbrev pub digest_place : List ℕ → ℕ → ℕ
digest_place s k = digests_offset (header_of s) + digests_before s k

abbrev pub extent_place : List ℕ → ℕ → ℕ
extent_place s k = extents_offset (header_of s) + 16 * extents_before s k

pub sum-grows : (f : ℕ → ℕ) (k n : ℕ) → k ≤ n → sum_below k f ≤ sum_below n f
unfolding sum_below
sum-grows f k zero l = let e : k ≡ 0 = omega arith in rw e (omega arith)
sum-grows f k (suc n) l =
    by_cases (ℕ_discrete k (suc n)) (λ (e : k ≡ suc n). rw e (omega arith)) (λ (e : ¬ (k ≡ suc n)). omega (arith, sum-grows f k n (omega arith)))

module _ (pairs s : List ℕ) (m : Meets v3 pairs s) where
  abbrev pub count : ℕ
  count = record_count (header_of s)

  abbrev pub row : ℕ → Row
  row = row_no v3 s (header_of s)

  -- k, k + 1, .., n of the rows
  abbrev pub rows : ℕ → ℕ → List Row
  rows k n = map row (count_from k n)

  pub digest-long : (k : ℕ) → k < count → length (row k).key.digest ≡ digest_length s k
  unfolding row_no row_of digest_in
  digest-long k l =
      let q : Record = record_in s k in
      let d = (m.each k l).digest in
      length-take-le q.digest_length (drop q.digest_offset.0 s) (simp length-drop (omega (arith, d, m.layout)))

  pub extents-long : (k : ℕ) → k < count → length (row_extents (row k)) ≡ extents_of s k
  unfolding row_no row_of
  extents-long k l =
      let q : Record = record_in s k in
      by-test (is_gone q)
      (λ g. rw g (sym ((m.each k l).extents.gone (eqb-true q.flags 1 g)).count))
      (λ g. rw g (extents-counted s q.extents_offset.0 q.extent_count))

  pub digests-sum : (n k : ℕ) → k + n ≤ count → digests_before s k + length (digest_bytes (rows k n)) ≡ digests_before s (k + n)
  unfolding digest_bytes count_from sum_below
  digests-sum zero k l = let e : k + 0 ≡ k = omega arith in rw e (omega arith)
  digests-sum (suc n) k l =
      let e : k + suc n ≡ suc k + n = omega arith in
      let here = digest-long k (omega arith) in
      let there = digests-sum n (suc k) (omega arith) in
      rw e (omega (arith, length-append (row k).key.digest (digest_bytes (rows (suc k) n))))

  pub extents-sum : (n k : ℕ) → k + n ≤ count → extents_before s k + extent_total (rows k n) ≡ extents_before s (k + n)
  unfolding extent_total count_from sum_below
  extents-sum zero k l = let e : k + 0 ≡ k = omega arith in rw e (omega arith)
  extents-sum (suc n) k l =
      let e : k + suc n ≡ suc k + n = omega arith in
      let here = extents-long k (omega arith) in
      let there = extents-sum n (suc k) (omega arith) in
      rw e (omega arith)
