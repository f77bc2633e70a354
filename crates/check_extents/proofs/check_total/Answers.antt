-- `check_extents::check_total` meets its contract: a row for each return.
use mathlib.Core.Path.{sym, ◌∙◌}
use native.Mathlib.Omega.{arith}
use Rattle.check_book.proofs.TablesRecord.{extents-book}
use Rattle.check_book.proofs.Readable.{extents-inside}
use Rattle.check_extents.proofs.ExtentRows.{gone-total, gone-none, total-past, total-great, total-differs, total-accepted}
use Rattle.check_extents.proofs.check_total.Goals as goal

pub returns-then-r-ne0 : goal.returns-then-r-ne0
returns-then-r-ne0 c = gone-total _ _ _ _ (omega arith) (omega arith)

pub returns-then-r-eq1 : goal.returns-then-r-eq1
returns-then-r-eq1 c = gone-none _ _ _ _ (omega arith) (omega arith)

pub sum_extents-requires : goal.sum_extents-requires
sum_extents-requires c =
    let p = c.requires in
    let i = extents-inside _ _ _ p.inside ((extents-book _ _ _).0 p.place_value) in
    (omega arith, omega arith)

pub returns-in_default : goal.returns-in_default
returns-in_default c = total-past _ _ _ _ (omega arith) (sym c.in_default.is ∙ c.sum_extents.ensures)

pub returns-then-sh-sum : goal.returns-then-sh-sum
returns-then-sh-sum c = total-great _ _ _ _ (omega arith) c.in-Some.sum (sym c.in-Some.is ∙ c.sum_extents.ensures) (omega arith)

pub returns-then-sum-r : goal.returns-then-sum-r
returns-then-sum-r c = total-differs _ _ _ _ (omega arith) c.in-Some.sum (sym c.in-Some.is ∙ c.sum_extents.ensures) (omega arith) (omega arith)

pub returns : goal.returns
returns c = total-accepted _ _ _ _ (omega arith) c.in-Some.sum (sym c.in-Some.is ∙ c.sum_extents.ensures) (omega arith) (omega arith)
