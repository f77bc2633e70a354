-- `put_sections::put_list` meets its contract: j of the extents are put.
use Rattle.put_sections.proofs.Runs.{Listing}
use Rattle.put_sections.proofs.put_list.Given as goal

abbrev pub invariant-loop-j : goal.invariant-loop-j
invariant-loop-j l = Listing l.source.items.kind l.source.items.bytes.now l.source.extents.now l.initial.out l.first l.count l.at l.j l.out
