-- How the tables stand in order: one entry, each of them, and the whole request.
-- Assumes nothing.
use Prim.Native.Nat.{ℕ, ◌+◌, ◌%◌, ◌≤◌, ◌<◌}
use mathlib.Core.Path.{◌≡◌, refl, sym, ◌∙◌}
use mathlib.Core.Bool.{Bool, true, false, not, ◌&&◌}
use mathlib.Core.List.{List}
use native.Mathlib.Omega.{arith}
use borrow.Author.Tests.{leb-true, ltb-true, eqb-true}
use lib.Dec.{leb, ltb, eqb}
use lib.ListN.{length}
use Rattle.std.specs.Prelude.{Err}
use Rattle.answer.specs.declared.Refusal.{Refusal}
use Rattle.answer.specs.declared.Rule.TheVariants.{LayoutBloom, Record, Digest, Extents, Total, List as ListEnd, Large}
use Rattle.answer.specs.Answers.{refusal}
use Rattle.answer.specs.Rules.{must, ◌then◌, first_over, Verdict, accepted}
use Rattle.lists.proofs.Tests.{tests, by-test, and-iff, was-false}
use Rattle.answer.proofs.Order.{first_more, first-refused}
use Rattle.table.specs.Table.{allows}
use Rattle.segment.specs.declared.entry.Entry.{Entry}
use Rattle.segment.specs.declared.extent.Extent.{Extent}
use Rattle.segment.specs.declared.shape.Shape.{Shape}
use Rattle.segment.specs.Keys.{fresh_key}
use Rattle.segment.specs.Write.{
  entry_place,
  entry_count,
  listed_extents,
  entry_no,
  entry_marks,
  entry_lists,
  entry_digest,
  entry_places,
  entry_extents,
  entry_total,
  entry_rules,
  entry_verdict,
  request_rules,
}
use Rattle.key.specs.declared.Kind.TheVariants.{Entries}
use Rattle.key.specs.Items.{item_key, item_place}
use Rattle.write_entry.specs.Kept.{marks_kept, lists_kept, places_kept, total_kept}
use Rattle.write_book.proofs.RequestBook.{same_keys}

-- ---- one entry

-- two rules with one refusal are one rule
must-both : (a b : Bool) (r : Refusal) → (must a r then must b r) ≡ must (a && b) r
must-both true b r = refl
must-both false b r = refl

marks-one : (e : Entry) (k : ℕ) → entry_marks e k ≡ must (marks_kept e.visibility e.imported e.gone e.source) (refusal Record k)
unfolding entry_marks marks_kept
marks-one e k = simp must-both

lists-one : (digests extents : List ℕ) (e : Entry) (k : ℕ)
    → entry_lists digests extents e k
    ≡ must (lists_kept e.digest_start e.digest_length (length digests) e.first_extent e.extent_count (listed_extents extents)) (refusal ListEnd k)
unfolding entry_lists lists_kept
lists-one digests extents e k = simp must-both

places-one : (e : Entry) (k : ℕ) → entry_places e k ≡ must (places_kept e.gone e.first_extent e.extent_count) (refusal Extents k)
unfolding entry_places places_kept
places-one e k =
    by-test (eqb e.gone 1)
    (λ g. rw g (simp must-both))
    (λ g. rw g (simp must-both))

total-one : (sh : Shape) (es : List Extent) (k : ℕ) → entry_total sh es k ≡ must (total_kept es sh.total_limit) (refusal Total k)
unfolding entry_total total_kept
total-one sh es k = simp must-both

-- an entry that keeps 15 and 9 has extents that can be counted and read
pub extents-held : (start size bytes first count listed gone : ℕ) → lists_kept start size bytes first count listed ≡ true
    → places_kept gone first count ≡ true → (first + count ≤ listed) × (count < 4294967296)
unfolding lists_kept places_kept
extents-held start size bytes first count listed gone a b = (
  leb-true (first + count) listed ((and-iff (leb (start + size) bytes) (leb (first + count) listed)).0 a).1,
  by-test (eqb gone 1)
      (λ g. let z = eqb-true count 0 ((and-iff (eqb first 0) (eqb count 0)).0 (rw g at b)).1 in omega arith)
      (λ g. ltb-true count 4294967296 ((and-iff (leb 1 count) (ltb count 4294967296)).0 (rw g at b)).1),
)

-- a verdict is that of five rules in order, each with its test
pub record InFive (v : Verdict) (k : ℕ) (marks lists allowed places total : Bool) : Type 0 where
  pub told : v
      ≡ (must marks (refusal Record k) then must lists (refusal ListEnd k) then must allowed (refusal Digest k) then must places (refusal Extents k) then must total (refusal Total k))

module _ {v : Verdict} {k : ℕ} {m l d p t : Bool} (f : InFive v k m l d p t) where
  pub lists-stop : m ≡ true → l ≡ false → Err (refusal ListEnd k) ≡ v
  lists-stop a b = rw (f.told, a, b)

  pub digest-stops : m ≡ true → l ≡ true → d ≡ false → Err (refusal Digest k) ≡ v
  digest-stops a b c = rw (f.told, a, b, c)

  pub places-stop : m ≡ true → l ≡ true → d ≡ true → p ≡ false → Err (refusal Extents k) ≡ v
  places-stop a b c g = rw (f.told, a, b, c, g)

  module _ (a : m ≡ true) (b : l ≡ true) (c : d ≡ true) (g : p ≡ true) where
    pub total-stops : t ≡ false → Err (refusal Total k) ≡ v
    total-stops h = rw (f.told, a, b, c, g, h)

    pub all-kept : t ≡ true → accepted ≡ v
    all-kept h = rw (f.told, a, b, c, g, h)

pub entry-five : (sh : Shape) (pairs digests extents : List ℕ) (e : Entry) (k : ℕ)
    → InFive (entry_rules sh pairs digests extents e k) k (marks_kept e.visibility e.imported e.gone e.source)
    (lists_kept e.digest_start e.digest_length (length digests) e.first_extent e.extent_count (listed_extents extents))
    (allows pairs e.hash_id e.digest_length) (places_kept e.gone e.first_extent e.extent_count)
    (total_kept (entry_extents extents e) sh.total_limit)
unfolding entry_rules entry_digest
entry-five sh pairs digests extents e k = record { told = rw (marks-one e k, lists-one digests extents e k, places-one e k, total-one sh (entry_extents extents e) k) }

-- the first of them: its premises are as the call and the test leave them
pub marks-stop : (sh : Shape) (pairs digests extents : List ℕ) (e : Entry) (k : ℕ) (t : Bool)
    → t ≡ marks_kept e.visibility e.imported e.gone e.source → not t ≡ true → Err (refusal Record k) ≡ entry_rules sh pairs digests extents e k
marks-stop sh pairs digests extents e k t p a = rw ((entry-five sh pairs digests extents e k).told, was-false p a)

-- ---- each entry, and the request

module _ (sh : Shape) (pairs entries digests extents : List ℕ) where
  -- a loop has come to k, and nothing is refused below it
  module _ (k : ℕ) (p : first_over k (entry_verdict sh pairs entries digests extents) ≡ accepted) where
    module _ (e : Entry) (q : e ≡ entry_no entries k) (at : ℕ) (w : at ≡ entry_place k) where
      here : entry_verdict sh pairs entries digests extents k ≡ entry_rules sh pairs digests extents e at
      unfolding entry_verdict
      here = rw (q, w)

      pub entry-refused : (n : ℕ) (x : Refusal) → k < n → entry_rules sh pairs digests extents e at ≡ Err x
          → Err x ≡ first_over n (entry_verdict sh pairs entries digests extents)
      entry-refused n x l f = sym (first-refused n k (entry_verdict sh pairs entries digests extents) x l p (here ∙ f))

      pub entry-passed : entry_rules sh pairs digests extents e at ≡ accepted → first_over (k + 1) (entry_verdict sh pairs entries digests extents) ≡ accepted
      entry-passed f = first_more k (entry_verdict sh pairs entries digests extents) p (here ∙ f)

    pub entries-passed : (n : ℕ) → k ≤ n → n ≤ k → accepted ≡ first_over n (entry_verdict sh pairs entries digests extents)
    entries-passed n a b =
        let e : n ≡ k = omega arith in
        rw (e, p)

  module _ (bloom : ℕ) where
    pub too_many : 65536 < entry_count entries → Err (refusal Large 0) ≡ request_rules sh pairs bloom entries digests extents
    unfolding request_rules
    too_many a = simp tests

    module _ (a : entry_count entries ≤ 65536) where
      pub bloom-odd : (bloom % 8 ≡ 0 → ⊥) → Err (refusal LayoutBloom 0) ≡ request_rules sh pairs bloom entries digests extents
      unfolding request_rules
      bloom-odd b = simp tests

      module _ (b : bloom % 8 ≡ 0) where
        pub entries-stop : (x : Refusal) → first_over (entry_count entries) (entry_verdict sh pairs entries digests extents) ≡ Err x
            → Err x ≡ request_rules sh pairs bloom entries digests extents
        unfolding request_rules
        entries-stop x f = simp (tests, f)

        pub keys-told : {v : Verdict} → first_over (entry_count entries) (entry_verdict sh pairs entries digests extents) ≡ accepted
            → v ≡ first_over (entry_count entries) (fresh_key (item_key Entries digests entries) (item_place Entries)) → v ≡ request_rules sh pairs bloom entries digests extents
        unfolding request_rules
        keys-told f g = g ∙ same_keys entries digests (entry_count entries) ∙ simp (tests, f)
