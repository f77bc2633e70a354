-- `put_sections::put_extents` meets its contract: the extents of the items so far are put.
use Rattle.put_sections.proofs.Turns.{Extending}
use Rattle.put_sections.proofs.put_extents.Given as goal

abbrev pub invariant-loop-i : goal.invariant-loop-i
invariant-loop-i l = Extending l.source.items.kind l.source.items.bytes.now l.source.items.list.now l.source.extents.now l.numbers l.initial.out l.i-index l.at l.out
