-- Of an accepted segment whose digests and extents are packed, the rows' records, digests and extents, written again, are its sections.
-- Assumes nothing.
use Prim.Native.Nat.{ℕ, zero, suc, ◌+◌, ◌*◌, ◌≤◌, ◌<◌}
use mathlib.Core.Path.{◌≡◌, sym, ap, ◌∙◌}
use mathlib.Core.List.{List, ◌++◌, append-nil, append_assoc}
use native.Mathlib.Omega.{arith}
use borrow.Author.Tests.{eqb-true, eqb-false}
use Rattle.numbers.specs.Numbers.{Bytes}
use Rattle.lists.proofs.Tests.{by-test}
use Rattle.segment.specs.declared.record.Record.{Record}
use Rattle.segment.specs.Format.{v3, header_of, record_no, records_offset, digests_offset, extents_offset}
use Rattle.segment.specs.Check.{is_gone, digest_in, sum_lengths}
use Rattle.segment.specs.Meets.{Meets, RecordMeets, MarksMeet}
use Rattle.segment.specs.Meaning.{row_extents, row_of, row_no}
use Rattle.lists.specs.Lists.{count_from}
use Rattle.segment.specs.Tidy.{packed, record_fields, record_for, records_bytes, digest_bytes, extent_list_bytes, extent_bytes}
use Rattle.segment.proofs.Sources.{imported-again, source-again}
use Rattle.segment.proofs.Extents.{extents-counted}
use Rattle.form_laws.proofs.States.{Says}
use Rattle.theorem_demands.specs.Refusals.{record_in}
use Rattle.theorem_meaning.specs.Accounts.{part}
use Rattle.theorem_tidiness.specs.Tidiness.{sum_below, digest_length, digests_before, extents_of, extents_before, IsPacked}
use Rattle.theorem_tidiness.proofs.WrittenAgain.{part-add, record-part, extents-part}
use Rattle.theorem_tidiness.proofs.Sums.{digest_place, extent_place, count, row, rows, digest-long, extents-long}

-- a part and what comes behind it, in two steps
further : (s xs ys : List ℕ) (a m n : ℕ) → xs ≡ part s (a + m) n → part s a m ++ (xs ++ ys) ≡ part s a (m + n) ++ ys
further s xs ys a m n e =
    sym (append_assoc (part s a m) xs ys) ∙ ap (λ (z : List ℕ). z ++ ys) (ap (λ (z : List ℕ). part s a m ++ z) e ∙ sym (part-add s a m n))

module _ (pairs s : List ℕ) (b : Bytes s) (m : Meets v3 pairs s) (p : IsPacked s) where
  -- ---- a record is its row's

  state-is : (k : ℕ) → k < count pairs s m → Says (record_in s k) (row pairs s m k).state (extent_place s k)
  unfolding row_no row_of sum_lengths
  state-is k l =
      let q : Record = record_in s k in
      let t : RecordMeets v3 pairs s (header_of s) q = m.each k l in
      by-test (is_gone q)
      (λ g.
      let e : q.flags ≡ 1 = eqb-true q.flags 1 g in
      let none = t.extents.gone e in
      rw g (record { flags = e; place = none.offset; count = none.count; total = t.total.gone e }))
      (λ g.
      let n = eqb-false q.flags 1 g in
      let live : q.flags ≡ 0 = omega (arith, t.marks.flags) in
      let counted = sym (extents-counted s q.extents_offset.0 q.extent_count) in
      rw g (record { flags = live; place = p.extents k l n; count = counted; total = sym (t.total.live n).sum }))

  record_is : (k : ℕ) → k < count pairs s m → record_in s k ≡ record_for (header_of s).domain (row pairs s m k) (digest_place s k) (extent_place s k)
  unfolding record_for row_no row_of
  record_is k l =
      let q : Record = record_in s k in
      let marks : MarksMeet (header_of s) q = (m.each k l).marks in
      let state : Says q (row pairs s m k).state (extent_place s k) = state-is k l in
      λ j. record {
        hash_id = q.hash_id;
        digest_length = sym (digest-long pairs s m k l) j;
        reserved = marks.reserved j;
        digest_offset = record { 0 = p.digests k l j };
        extents_offset = record { 0 = state.place j };
        extent_count = state.count j;
        total_length = state.total j;
        domain = marks.domain j;
        visibility = q.visibility;
        imported = imported-again q.imported q.source marks.imported j;
        reserved_last = marks.reserved_last j;
        source = source-again q.imported q.source marks.source j;
        flags = state.flags j;
      }

  -- ---- the sections, from a record on

  pub records-on : (n k d e : ℕ) → k + n ≤ count pairs s m → d ≡ digest_place s k → e ≡ extent_place s k
      → part s (records_offset (header_of s)) (48 * k) ++ records_bytes v3 (header_of s).domain (rows pairs s m k n) d e
      ≡ part s (records_offset (header_of s)) (48 * (k + n))
  unfolding records_bytes count_from sum_below record_no
  records-on zero k d e l f g = let z : k + 0 ≡ k = omega arith in rw z (append-nil _)
  records-on (suc n) k d e l f g =
      let at : ℕ = records_offset (header_of s) in
      let more : 48 * k + 48 ≡ 48 * suc k = omega arith in
      let z : k + suc n ≡ suc k + n = omega arith in
      let digests = digest-long pairs s m k (omega arith) in
      let extents = extents-long pairs s m k (omega arith) in
      let within : k < count pairs s m = omega arith in
      let here : packed (record_fields v3 (record_for (header_of s).domain (row pairs s m k) d e)) ≡ part s (at + 48 * k) 48 =
      rw (f, g, ← record_is k within) (record-part s b (at + 48 * k) (omega (arith, m.layout))) in
      further s _ _ at (48 * k) 48 here
      ∙ rw (more, z) (records-on n (suc k) _ _ (omega arith) (omega arith) (omega arith))

  pub digests-on : (n k : ℕ) → k + n ≤ count pairs s m
      → part s (digests_offset (header_of s)) (digests_before s k) ++ digest_bytes (rows pairs s m k n)
      ≡ part s (digests_offset (header_of s)) (digests_before s (k + n))
  unfolding digest_bytes count_from sum_below row_no row_of digest_in
  digests-on zero k l = let z : k + 0 ≡ k = omega arith in rw z (append-nil _)
  digests-on (suc n) k l =
      let z : k + suc n ≡ suc k + n = omega arith in
      let here : (row pairs s m k).key.digest ≡ part s (digest_place s k) (digest_length s k) =
      ap (λ (i : ℕ). part s i (digest_length s k)) (p.digests k (omega arith)) in
      further s (row pairs s m k).key.digest (digest_bytes (rows pairs s m (suc k) n)) (digests_offset (header_of s)) (digests_before s k) (digest_length s k) here
      ∙ rw z (digests-on n (suc k) (omega arith))

  row-extents : (k : ℕ) → k < count pairs s m → extent_list_bytes (row_extents (row pairs s m k)) ≡ part s (extent_place s k) (16 * extents_of s k)
  unfolding row_no row_of extent_list_bytes
  row-extents k l =
      let q : Record = record_in s k in
      by-test (is_gone q)
      (λ g. rw (g, ((m.each k l).extents.gone (eqb-true q.flags 1 g)).count))
      (λ g.
      let n = eqb-false q.flags 1 g in
      rw (g, ← p.extents k l n) (extents-part s b q.extent_count q.extents_offset.0 (omega (arith, (m.each k l).extents.live n, m.layout))))

  pub extents-on : (n k : ℕ) → k + n ≤ count pairs s m
      → part s (extents_offset (header_of s)) (16 * extents_before s k) ++ extent_bytes (rows pairs s m k n)
      ≡ part s (extents_offset (header_of s)) (16 * extents_before s (k + n))
  unfolding extent_bytes count_from sum_below
  extents-on zero k l = let z : k + 0 ≡ k = omega arith in rw z (append-nil _)
  extents-on (suc n) k l =
      let z : k + suc n ≡ suc k + n = omega arith in
      let more : 16 * extents_before s k + 16 * extents_of s k ≡ 16 * (extents_before s k + extents_of s k) = omega arith in
      further s _ (extent_bytes (rows pairs s m (suc k) n)) (extents_offset (header_of s)) (16 * extents_before s k) (16 * extents_of s k) (row-extents k (omega arith))
      ∙ rw (more, z) (extents-on n (suc k) (omega arith))
