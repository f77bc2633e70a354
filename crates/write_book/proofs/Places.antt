-- Where write's check of what it is lent refuses: at 0, or at the place of an entry that is there.
-- Assumes nothing.
use Prim.Native.Nat.{ℕ, ◌%◌, ◌≤◌, ◌<◌}
use mathlib.Core.List.{List}
use native.Mathlib.Omega.{arith}
use borrow.Author.Tests.{leb-true}
use lib.Dec.{leb, eqb}
use Rattle.answer.specs.declared.Rule.TheVariants.{Large, LayoutBloom}
use Rattle.answer.specs.Answers.{refusal}
use Rattle.answer.proofs.Order.{must-accepted}
use Rattle.answer.proofs.Places.{Placed, placed-must, placed-then, placed-after, placed_first, placed-rows}
use Rattle.segment.specs.declared.entry.Entry.{Entry}
use Rattle.segment.specs.declared.shape.Shape.{Shape}
use Rattle.segment.specs.Format.{record_limit}
use Rattle.key.proofs.Duplicates.{fresh-placed}
use Rattle.segment.specs.Write.{
  entry_count,
  entry_no,
  entry_marks,
  entry_lists,
  entry_digest,
  entry_places,
  entry_extents,
  entry_total,
  entry_place,
  entry_rules,
  entry_verdict,
  entry_key,
  request_rules,
}

module _ {b : ℕ} (sh : Shape) (pairs digests extents : List ℕ) (e : Entry) (p : ℕ) (l : p < b) where
  marks-placed : Placed b (entry_marks e p)
  unfolding entry_marks
  marks-placed = search placed-rows depth 7

  lists-placed : Placed b (entry_lists digests extents e p)
  unfolding entry_lists
  lists-placed = search placed-rows

  digest-placed : Placed b (entry_digest pairs e p)
  unfolding entry_digest
  digest-placed = search placed-rows

  places-placed : Placed b (entry_places e p)
  unfolding entry_places
  places-placed = search placed-rows

  total-placed : Placed b (entry_total sh (entry_extents extents e) p)
  unfolding entry_total
  total-placed = search placed-rows

  entry-placed : Placed b (entry_rules sh pairs digests extents e p)
  unfolding entry_rules
  entry-placed = placed-then marks-placed (placed-then lists-placed (placed-then digest-placed (placed-then places-placed total-placed)))

pub request-placed : {b : ℕ} → record_limit ≤ b → 0 < b → (sh : Shape) (pairs : List ℕ) (bloom : ℕ) (entries digests extents : List ℕ)
    → Placed b (request_rules sh pairs bloom entries digests extents)
unfolding request_rules entry_verdict
request-placed m z sh pairs bloom entries digests extents =
    placed-after _ (placed-must (leb (entry_count entries) record_limit) Large 0 z) (λ few.
    let n : entry_count entries ≤ record_limit = leb-true (entry_count entries) record_limit ((must-accepted (leb (entry_count entries) record_limit) (refusal Large 0)).0 few) in
    placed-then (placed-must (eqb (bloom % 8) 0) LayoutBloom 0 z)
    (placed-then (placed_first (entry_count entries) _ (λ k l. entry-placed sh pairs digests extents (entry_no entries k) (entry_place k) (omega arith)))
    (placed_first (entry_count entries) _ (λ k l. fresh-placed (entry_key entries digests) entry_place k (omega arith)))))
