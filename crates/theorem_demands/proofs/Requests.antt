-- Write's refusals before the size: each is given exactly when its rule is broken and every rule before it in the order is kept.
-- Assumes nothing.
use Prim.Native.Nat.{ℕ, ◌%◌, ◌≤◌}
use mathlib.Core.Path.{◌≡◌, ◌∙◌}
use mathlib.Core.Logic.Iff
use mathlib.Core.Logic.{◌↔◌, ⊎_elim}
use mathlib.Core.List.{List}
use native.Mathlib.Omega.{arith}
use borrow.Author.Tests.{le-leb, lt-leb, eq-eqb, ne_eqb}
use lib.Dec.{leb, eqb}
use lib.ListN.{length}
use Rattle.std.specs.Prelude.{Err}
use Rattle.answer.specs.declared.Refusal.{Refusal}
use Rattle.answer.specs.declared.Rule.TheVariants.{LayoutBloom, Record as RecordWrong, Digest, Extents, Total, Table, List as ListEnd, Large}
use Rattle.answer.specs.Answers.{refusal}
use Rattle.answer.specs.Rules.{must, ◌then◌, first_over, Verdict, accepted}
use Rattle.lists.proofs.Tests.{by-test}
use Rattle.answer.proofs.Order.{rows, then-accepted, then-refused, first-refused, Lowest, first-is-lowest}
use Rattle.segment.specs.declared.entry.Entry.{Entry}
use Rattle.segment.specs.Format.{v3, record_limit}
use Rattle.table.specs.Table.{good_table, table_verdict}
use Rattle.segment.specs.Keys.{fresh_key}
use Rattle.segment.specs.Write.{
  entry_place,
  Request,
  entry_count,
  entry_no,
  entry_extents,
  entry_marks,
  entry_lists,
  entry_digest,
  entry_places,
  entry_total,
  entry_rules,
  entry_verdict,
  entry_key,
  request_rules,
  request_verdict,
}
use Rattle.key.proofs.Duplicates.{twice-refused, refused-twice}
use Rattle.write_book.proofs.RequestBook.{marks-book, lists-book, digest-book, places-book, total-book, entry-book, entries-book, request-book}
use Rattle.theorem_demands.specs.Writing.{
  Asks,
  UpToBloom,
  UpToEntries,
  EntryGiven,
  by-marks,
  by-lists,
  by-digest,
  by-places,
  by_total,
  RequestGiven,
  by-table,
  by_count,
  by-bloom,
  by-entry,
  by_key,
}
use Rattle.check_book.proofs.OneRefusal.{Only, only-must, only-rows, broken, only-refused, by_first}
use Rattle.check_book.proofs.TablesHeader.{table-book}

-- ---- one entry

module _ (pairs digests extents : List ℕ) (e : Entry) (k : ℕ) where
  marks-only : Only (refusal RecordWrong k) (entry_marks e k)
  unfolding entry_marks
  marks-only = search only-rows depth 9

  lists-only : Only (refusal ListEnd k) (entry_lists digests extents e k)
  unfolding entry_lists
  lists-only = search only-rows

  digest-only : Only (refusal Digest k) (entry_digest pairs e k)
  unfolding entry_digest
  digest-only = search only-rows

  places-only : Only (refusal Extents k) (entry_places e k)
  unfolding entry_places
  places-only = search only-rows

  total-only : Only (refusal Total k) (entry_total v3 (entry_extents extents e) k)
  unfolding entry_total
  total-only = search only-rows

  entry-refuses : (r : Refusal) → entry_rules v3 pairs digests extents e k ≡ Err r → EntryGiven pairs digests extents e k r
  unfolding entry_rules
  entry-refuses r f =
      by_first marks-only (marks-book e k) f (λ s n. rw (← s) (by-marks n))
      (λ m f.
      by_first lists-only (lists-book digests extents e k) f (λ s n. rw (← s) (by-lists m n))
      (λ l f.
      by_first digest-only (digest-book pairs e k) f (λ s n. rw (← s) (by-digest m l n))
      (λ d f.
      by_first places-only (places-book e k) f (λ s n. rw (← s) (by-places m l d n))
      (λ p f. let t = (only-refused total-only (total-book v3 (entry_extents extents e) k) r).0 f in rw (← t.0) (by_total m l d p t.1)))))

  entry-given : (r : Refusal) → EntryGiven pairs digests extents e k r → entry_rules v3 pairs digests extents e k ≡ Err r
  unfolding entry_rules
  entry-given r (by-marks n) = rw (broken marks-only (marks-book e k) n)
  entry-given r (by-lists m n) = rw ((marks-book e k).1 m, broken lists-only (lists-book digests extents e k) n)
  entry-given r (by-digest m l n) = rw ((marks-book e k).1 m, (lists-book digests extents e k).1 l, broken digest-only (digest-book pairs e k) n)
  entry-given r (by-places m l d n) =
      rw ((marks-book e k).1 m, (lists-book digests extents e k).1 l, (digest-book pairs e k).1 d, broken places-only (places-book e k) n)
  entry-given r (by_total m l d p n) =
      let t = broken total-only (total-book v3 (entry_extents extents e) k) n in
      rw ((marks-book e k).1 m, (lists-book digests extents e k).1 l, (digest-book pairs e k).1 d, (places-book e k).1 p, t)

-- ---- the whole request

module _ (pairs : List ℕ) (q : Request) where
  abbrev count : ℕ
  count = entry_count q.entries

  abbrev each : ℕ → Verdict
  each = entry_verdict v3 pairs q.entries q.digests q.extents

  abbrev key : ℕ → List ℕ
  key = entry_key q.entries q.digests

  pub request-accepted : request_verdict v3 pairs q ≡ accepted ↔ Asks pairs q
  unfolding request_verdict
  request-accepted =
      simp (then-accepted, table-book, request-book)
      (λ a. record { table = a.0; asked = a.1 }, λ m. (m.table, m.asked))

  first_entry : UpToBloom pairs q → (r : Refusal) → Lowest count each r → RequestGiven pairs q r
  unfolding entry_verdict
  first_entry u r l =
      let asked = entry-book v3 pairs q.digests q.extents in
      by-entry l.at
      (record { before = u; within = l.within; earlier = λ j i. (asked (entry_no q.entries j) j).0 (l.before j i) })
      (entry-refuses pairs q.digests q.extents (entry_no q.entries l.at) l.at r l.here)

  from-keys : UpToEntries pairs q → (r : Refusal) → first_over count (fresh_key key entry_place) ≡ Err r → RequestGiven pairs q r
  from-keys u r f = let d = refused-twice key entry_place count r f in rw (← d.1) (by_key d.0 u d.2)

  from_entries : UpToBloom pairs q → (r : Refusal) → (first_over count each then first_over count (fresh_key key entry_place)) ≡ Err r → RequestGiven pairs q r
  from_entries u r f =
      ⊎_elim
      (λ g. first_entry u r ((first-is-lowest count each r).0 g))
      (λ g. from-keys (record { before = u; each = (entries-book v3 pairs q.entries q.digests q.extents count).0 g.0 }) r g.1)
      ((then-refused (first_over count each) (first_over count (fresh_key key entry_place)) r).0 f)

  few-book : must (leb count record_limit) (refusal Large 0) ≡ accepted ↔ count ≤ record_limit
  few-book = simp rows Iff.rfl

  bloom-book : must (eqb (length q.bloom % 8) 0) (refusal LayoutBloom 0) ≡ accepted ↔ length q.bloom % 8 ≡ 0
  bloom-book = simp rows Iff.rfl

  request-refuses : (r : Refusal) → request_verdict v3 pairs q ≡ Err r → RequestGiven pairs q r
  unfolding request_verdict request_rules table_verdict
  request-refuses r f =
      by_first (only-must (good_table pairs) (refusal Table 0)) (table-book pairs) f (λ s n. rw (← s) (by-table (by-test (good_table pairs) (λ g. absurd (n g)) (λ g. g))))
      (λ g f.
      by_first (only-must (leb count record_limit) (refusal Large 0)) few-book f (λ s n. rw (← s) (by_count g (omega arith)))
      (λ few f.
      by_first (only-must (eqb (length q.bloom % 8) 0) (refusal LayoutBloom 0)) bloom-book f (λ s n. rw (← s) (by-bloom g few n))
      (λ bloom f. from_entries (record { table = g; few = few; bloom = bloom }) r f)))

  at-entries : UpToBloom pairs q → request_verdict v3 pairs q ≡ (first_over count each then first_over count (fresh_key key entry_place))
  unfolding request_verdict request_rules table_verdict
  at-entries u = rw (u.table, le-leb _ _ u.few, eq-eqb _ _ u.bloom)

  request-given : (r : Refusal) → RequestGiven pairs q r → request_verdict v3 pairs q ≡ Err r
  unfolding request_verdict request_rules table_verdict entry_verdict
  request-given r (by-table g) = rw g
  request-given r (by_count g l) = rw (g, lt-leb _ _ l)
  request-given r (by-bloom g few n) = rw (g, le-leb _ _ few, ne_eqb _ _ n)
  request-given r (by-entry k u g) =
      let earlier = (entries-book v3 pairs q.entries q.digests q.extents k).1 u.earlier in
      let here = entry-given pairs q.digests q.extents (entry_no q.entries k) k r g in
      at-entries u.before ∙ rw (first-refused count k each r u.within earlier here)
  request-given r (by_key k u m) =
      let all = (entries-book v3 pairs q.entries q.digests q.extents count).1 u.each in
      at-entries u.before ∙ rw (all, twice-refused key entry_place count k m)

  pub request-refused-iff : (r : Refusal) → request_verdict v3 pairs q ≡ Err r ↔ RequestGiven pairs q r
  request-refused-iff r = (request-refuses r, request-given r)
