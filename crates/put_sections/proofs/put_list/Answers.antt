-- `put_sections::put_list` meets its contract: j of the extents are put.
use native.Mathlib.Omega.{arith}
use Rattle.put_sections.proofs.Runs.{held-fewer, listing_start, listing-more}
use Rattle.put_sections.proofs.put_list.Goals as goal

pub loop-j-init : goal.loop-j-init
loop-j-init c = listing_start _ _ _ _ _ _ _

pub extent-e-requires : goal.extent-e-requires
extent-e-requires c = held-fewer _ _ _ _ _ _ (omega arith) c.requires.held

pub loop-j-preserved : goal.loop-j-preserved
loop-j-preserved c =
    listing-more _ _ _ _ _ _ _ _ _ c.loop-j.invariant _ _ (omega arith) c.extent-e.ensures c.put_extent.ensures c.requires.count_in_bounds
