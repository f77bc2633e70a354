-- Each refusal of check is given exactly when its rule is broken and every rule before it in the order is kept. One way by what check answers there;
-- the other by a walk through the rules, which comes to the end or to a refusal that is given so.
-- Assumes nothing.
use Prim.Native.Nat.{ℕ}
use mathlib.Core.Path.{◌≡◌, refl, ◌∙◌}
use mathlib.Core.Bool.{Bool, true, false}
use mathlib.Core.Logic.{◌↔◌, by_cases}
use mathlib.Core.List.{List}
use lib.ListN.{length}
use native.Mathlib.Decide.{ℕ_discrete}
use Rattle.std.specs.Prelude.{Err, Ok}
use Rattle.answer.specs.declared.Refusal.{Refusal}
use Rattle.answer.specs.Rules.{first_over, Verdict, accepted}
use Rattle.answer.specs.Answers.{refused, check_answer}
use Rattle.answer.proofs.Order.{never_both, Lowest, by-run}
use Rattle.answer.proofs.Settled.{check-settled}
use Rattle.segment.proofs.Shapes.{v3-shaped}
use Rattle.segment.specs.Format.{v3, header_of, record_count, record_at}
use Rattle.table.specs.Table.{good_table}
use Rattle.segment.specs.Keys.{fresh_key}
use Rattle.segment.specs.Check.{record_verdict, key_no, checked, check_of}
use Rattle.segment.specs.Meets.{MarksMeet, DigestMeets, RecordMeets}
use Rattle.check_book.specs.Layout.{BloomLaid, RecordsLaid, DigestsLaid, ExtentsLaid}
use Rattle.key.proofs.Duplicates.{refused-twice}
use Rattle.theorem_demands.specs.Refusals.{
  MagicMeets,
  VersionMeets,
  record_in,
  place_in,
  UpToSize,
  UpToHeader,
  UpToLayout,
  UpToChecksum,
  UpToRecords,
  UpToVisibility,
  Reached,
  Given,
  by-table,
  by_size,
  by-magic,
  by-version,
  by-header,
  by-layout-bloom,
  by-layout-records,
  by-layout-digests,
  by-layout-extents,
  by-layout-length,
  by-checksum,
  by-marks,
  by-digest,
  by-extents,
  by_total,
  by-visibility,
  by-duplicate,
}
use Rattle.check_book.proofs.OneRefusal.{decided}
use Rattle.check_book.proofs.TablesHeader.{
  size-book,
  header-book,
  bloom-laid-book,
  records-laid-book,
  digests-laid-book,
  extents-laid-book,
  length-laid-book,
  laid-meets,
  checksum-book,
}
use Rattle.check_book.proofs.TablesRecord.{marks-book, digest-book, extents-book, record-book}
use Rattle.check_book.proofs.TablesVisibility.{visibility-book}
use Rattle.theorem_demands.proofs.InNumbers.{in-numbers}
use Rattle.theorem_demands.proofs.Stops.{at-keys, given-refused}

-- where the walk comes to
data Judged (pairs s : List ℕ) : Type 0 where
  accepts : checked pairs s ≡ accepted → Judged pairs s
  gives : (r : Refusal) → Given pairs s r → Judged pairs s

-- ---- the walk, from its last step to its first

module _ (pairs s : List ℕ) where
  from-keys : UpToVisibility pairs s → Judged pairs s
  from-keys u = go (first_over (record_count (header_of s)) (fresh_key (key_no v3 s (header_of s)) (record_at v3 (header_of s)))) refl
    where
      go : (v : Verdict) → first_over (record_count (header_of s)) (fresh_key (key_no v3 s (header_of s)) (record_at v3 (header_of s))) ≡ v → Judged pairs s
      go (Ok _) e = accepts (at-keys pairs s u ∙ e)
      go (Err r) e =
          let d = refused-twice (key_no v3 s (header_of s)) (record_at v3 (header_of s)) (record_count (header_of s)) r e in
          gives _ (by-duplicate d.0 u d.2)

  from-visibility : UpToRecords pairs s → Judged pairs s
  from-visibility u =
      by_cases (decided (visibility-book v3 s (header_of s)))
      (λ m. from-keys (record { before = u; visibility = m }))
      (λ n. gives _ (by-visibility u n))

  -- a record whose rules are not all kept
  module _ (k : ℕ) (u : Reached pairs s k) (n : ¬ RecordMeets v3 pairs s (header_of s) (record_in s k)) where
    from-extents : MarksMeet (header_of s) (record_in s k) → DigestMeets pairs (header_of s) (record_in s k) → Judged pairs s
    from-extents marks digest =
        by_cases (decided (extents-book (header_of s) (record_in s k) (place_in s k)))
        (λ m. gives _ (by_total k u marks digest m (λ total. n (record { marks = marks; digest = digest; extents = m; total = total }))))
        (λ b. gives _ (by-extents k u marks digest b))

    from-digest : MarksMeet (header_of s) (record_in s k) → Judged pairs s
    from-digest marks =
        by_cases (decided (digest-book pairs (header_of s) (record_in s k) (place_in s k))) (from-extents marks) (λ b. gives _ (by-digest k u marks b))

    from-marks : Judged pairs s
    from-marks = by_cases (decided (marks-book (header_of s) (record_in s k) (place_in s k))) from-digest (λ b. gives _ (by-marks k u b))

  first-bad : UpToChecksum pairs s → (r : Refusal) → Lowest (record_count (header_of s)) (record_verdict v3 pairs s (header_of s)) r → Judged pairs s
  first-bad u r l =
      let book = record-book v3 pairs s (header_of s) in
      let reached : Reached pairs s l.at = record { before = u; within = l.within; earlier = λ j i. (book j).0 (l.before j i) } in
      from-marks l.at reached (λ m. never_both ((book l.at).1 m) l.here)

  from-records : UpToChecksum pairs s → Judged pairs s
  from-records u =
      by-run (record_count (header_of s)) (record_verdict v3 pairs s (header_of s))
      (λ all. from-visibility (record { before = u; each = λ j i. (record-book v3 pairs s (header_of s) j).0 (all j i) }))
      (first-bad u)

  from-checksum : UpToLayout pairs s → Judged pairs s
  from-checksum u =
      by_cases (decided (checksum-book s)) (λ m. from-records (record { before = u; checksum = m })) (λ n. gives _ (by-checksum u n))

  -- a segment whose header is kept
  module _ (u : UpToHeader pairs s) where
    from-length : BloomLaid (header_of s) → RecordsLaid (header_of s) → DigestsLaid v3 (header_of s) → ExtentsLaid (header_of s) → Judged pairs s
    from-length bloom records digests extents =
        by_cases (decided (length-laid-book (header_of s) (length s)))
        (λ m. from-checksum (record { before = u; layout = laid-meets v3 v3-shaped s (header_of s) bloom records digests extents m }))
        (λ n. gives _ (by-layout-length u bloom records digests extents n))

    from-extents-offset : BloomLaid (header_of s) → RecordsLaid (header_of s) → DigestsLaid v3 (header_of s) → Judged pairs s
    from-extents-offset bloom records digests =
        by_cases (decided (extents-laid-book (header_of s))) (from-length bloom records digests) (λ n. gives _ (by-layout-extents u bloom records digests n))

    from-digests-offset : BloomLaid (header_of s) → RecordsLaid (header_of s) → Judged pairs s
    from-digests-offset bloom records =
        by_cases (decided (digests-laid-book (header_of s) v3)) (from-extents-offset bloom records) (λ n. gives _ (by-layout-digests u bloom records n))

    from-records-offset : BloomLaid (header_of s) → Judged pairs s
    from-records-offset bloom =
        by_cases (decided (records-laid-book (header_of s))) (from-digests-offset bloom) (λ n. gives _ (by-layout-records u bloom n))

    from-layout : Judged pairs s
    from-layout = by_cases (decided (bloom-laid-book (header_of s))) from-records-offset (λ n. gives _ (by-layout-bloom u n))

  from-header : UpToSize pairs s → MagicMeets s → VersionMeets s → Judged pairs s
  from-header u magic version =
      by_cases (decided (header-book v3 (header_of s) magic version))
      (λ m. from-layout (record { before = u; magic = magic; version = version; header = m }))
      (λ n. gives _ (by-header u magic version n))

  from-version : UpToSize pairs s → MagicMeets s → Judged pairs s
  from-version u magic =
      by_cases (ℕ_discrete (header_of s).version v3.version) (from-header u magic) (λ n. gives _ (by-version u magic n))

  from-magic : UpToSize pairs s → Judged pairs s
  from-magic u = by_cases (ℕ_discrete (header_of s).magic v3.magic) (from-version u) (λ n. gives _ (by-magic u n))

  from-size : good_table pairs ≡ true → Judged pairs s
  from-size g = by_cases (decided (size-book s)) (λ m. from-magic (record { table = g; size = m })) (λ n. gives _ (by_size g n))

  judged : Judged pairs s
  judged = go (good_table pairs) refl
    where
      go : (b : Bool) → good_table pairs ≡ b → Judged pairs s
      go true e = from-size e
      go false e = gives _ (by-table e)

  -- ---- the theorem

  settled : (r : Refusal) → checked pairs s ≡ Err r → Judged pairs s → Given pairs s r
  settled r e (accepts a) = absurd (never_both a e)
  settled r e (gives q g) =
      let f = given-refused pairs s q g in
      let same : q ≡ r = cc in
      rw same at g

pub refused-iff : (pairs s : List ℕ) (r : Refusal) → (checked pairs s ≡ Err r) ↔ Given pairs s r
refused-iff pairs s r = (λ e. settled pairs s r e (judged pairs s), given-refused pairs s r)

-- in numbers
pub refused-numbers : (pairs s : List ℕ) (r : Refusal) → (check_of pairs s ≡ refused r) ↔ Given pairs s r
unfolding check_of
refused-numbers pairs s = in-numbers check_answer Err check-settled (λ r. refl) (checked pairs s) (refused-iff pairs s)
