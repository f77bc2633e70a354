-- `put_sections::put_digests` meets its contract: the digests of the items so far are put.
use Rattle.put_sections.proofs.Turns.{Digesting}
use Rattle.put_sections.proofs.put_digests.Given as goal

abbrev pub invariant-loop-i : goal.invariant-loop-i
invariant-loop-i l = Digesting l.items.kind l.items.bytes.now l.items.list.now l.numbers l.initial.out l.i-index l.at l.out
