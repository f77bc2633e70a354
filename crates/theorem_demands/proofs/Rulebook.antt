-- Check accepts exactly the segments that meet the rules of docs/FORMAT.md: the rules in order, of which the first that is broken is the answer, and the rule
-- book, which has no order, say the same.
-- Assumes nothing.
use Prim.Native.Nat.{ℕ}
use mathlib.Core.Path.{◌≡◌, ap}
use mathlib.Core.Bool.{true}
use mathlib.Core.Logic.Iff
use mathlib.Core.Logic.{◌↔◌}
use mathlib.Core.List.{List}
use Rattle.std.specs.Prelude.{Ok}
use Rattle.answer.specs.Rules.{Verdict}
use Rattle.answer.specs.Answers.{check_answer}
use Rattle.answer.proofs.Order.{then-accepted}
use Rattle.answer.proofs.Settled.{check-settled}
use Rattle.segment.specs.Format.{v3}
use Rattle.segment.proofs.Shapes.{v3-shaped}
use Rattle.table.specs.Table.{good_table}
use Rattle.segment.specs.Check.{checked, check_of}
use Rattle.segment.specs.Meets.{Meets}
use Rattle.theorem_demands.specs.Answered.{accepted}
use Rattle.check_book.proofs.Book.{segment-book, checked-iff}
use Rattle.check_book.proofs.TablesHeader.{table-book}

-- check's answer in numbers and its verdict
pub answer-is : (pairs s : List ℕ) (v : Verdict) → check_of pairs s ≡ check_answer v ↔ checked pairs s ≡ v
unfolding check_of
answer-is pairs s v = (check-settled (checked pairs s) v, ap check_answer)

pub accepted-iff : (pairs s : List ℕ) → good_table pairs ≡ true → (check_of pairs s ≡ accepted) ↔ Meets v3 pairs s
accepted-iff pairs s g = simp (answer-is pairs s (Ok _), checked-iff pairs s g) Iff.rfl

-- and with the table's own rule: under one that is not good, check accepts nothing
pub accepts-iff : (pairs s : List ℕ) → (check_of pairs s ≡ accepted) ↔ (good_table pairs ≡ true) × Meets v3 pairs s
unfolding checked
accepts-iff pairs s = simp (answer-is pairs s (Ok _), then-accepted, table-book, segment-book v3 v3-shaped) Iff.rfl
