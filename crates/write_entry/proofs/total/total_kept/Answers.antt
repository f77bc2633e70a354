-- `write_entry::total::total_kept` meets its contract: what is left of the extents decides.
use mathlib.Core.Path.{ap}
use mathlib.Core.Bool.{not}
use native.Mathlib.Omega.{arith}
use Rattle.write_entry.proofs.Adding.{add_start, size_fits, add-more, total-past, total-told}
use Rattle.write_entry.proofs.total.total_kept.Goals as goal

pub loop-i-init : goal.loop-i-init
loop-i-init c = add_start _ _ _

pub returns-then-not-extent_fits : goal.returns-then-not-extent_fits
returns-then-not-extent_fits c =
    total-past _ _ _ _ _ c.loop-i.invariant (omega arith) _ c.extent_fits.ensures _ (ap not c.if-not-extent_fits.true)

pub overflow_add-sum : goal.overflow_add-sum
overflow_add-sum c =
    let l = size_fits _ _ _ _ _ c.loop-i.invariant (omega arith) _ c.extent_fits.ensures (ap not c.if-not-extent_fits.false) in
    omega arith

pub loop-i-preserved : goal.loop-i-preserved
loop-i-preserved c =
    add-more _ _ _ _ _ c.loop-i.invariant (omega arith) _ c.extent_fits.ensures (ap not c.if-not-extent_fits.false)

pub returns : goal.returns
returns c = total-told _ _ _ _ _ c.loop-i.invariant (omega arith) _
