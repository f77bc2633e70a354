-- `write_entry::total::total_kept` meets its contract: what is left of the extents decides.
use Rattle.write_entry.proofs.Adding.{Adding}
use Rattle.write_entry.proofs.total.total_kept.Given as goal

abbrev pub invariant-loop-i : goal.invariant-loop-i
invariant-loop-i l = Adding l.extents l.first l.count l.i l.sum
