-- `put_item::Source::measure` meets its contract: the items of the numbers so far are counted.
use Rattle.put_item.proofs.Measuring.{Measuring}
use Rattle.put_item.proofs.Source.measure.Given as goal

abbrev pub invariant-loop-k : goal.invariant-loop-k
invariant-loop-k l = Measuring l.self.items.kind l.self.items.bytes.now l.self.items.list.now l.numbers l.k-index l.digests l.extents l.visibility
