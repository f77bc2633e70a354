-- `put_sections::put_records` meets its contract: k records are put.
use Rattle.put_sections.proofs.Turns.{Recording}
use Rattle.put_sections.proofs.put_records.Given as goal

abbrev pub invariant-loop-k : goal.invariant-loop-k
invariant-loop-k l = Recording l.sh l.h l.source.items.kind l.source.items.bytes.now l.source.items.list.now l.source.extents.now l.numbers l.initial.out l.k l.digest_at l.extents_at l.out
