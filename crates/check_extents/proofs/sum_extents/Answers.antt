-- `check_extents::sum_extents` meets its contract: what is left of the extents decides.
use mathlib.Core.Path.{sym, ◌∙◌}
use native.Mathlib.Omega.{arith}
use Rattle.check_extents.proofs.ExtentRows.{sum-start, sum_past, sum_more, sum_done}
use Rattle.check_extents.proofs.sum_extents.Goals as goal

pub loop-i-init : goal.loop-i-init
loop-i-init c = sum-start _ _ _

pub returns-then-passes_block : goal.returns-then-passes_block
returns-then-passes_block c =
    sum_past _ _ _ _ _ _ _ c.loop-i.invariant (omega arith) c.read.ensures c.read-size.ensures (sym c.passes_block.ensures ∙ c.if-passes_block.true)

pub loop-i-preserved : goal.loop-i-preserved
loop-i-preserved c =
    sum_more _ _ _ _ _ _ _ c.loop-i.invariant (omega arith) c.read.ensures c.read-size.ensures (sym c.passes_block.ensures ∙ c.if-passes_block.false) (omega arith)

pub returns : goal.returns
returns c = sum_done _ _ _ _ _ c.loop-i.invariant (omega arith)
