-- `table::allows` meets its contract: what the whole list says is what its rest says.
use Rattle.std.proofs.Common.{◌≡◌}
use Rattle.std.specs.Slice.Iter.{chunks_exact_rest, chunks_exact_size}
use Rattle.table.specs.Table.{allows}
use Rattle.table.proofs.allows.Given as goal

abbrev pub invariant-loop-pair : goal.invariant-loop-pair
invariant-loop-pair l = record {
  two : chunks_exact_size l.pair-iterator ≡ 2;
  same : allows l.pairs l.hash l.len ≡ allows (chunks_exact_rest l.pair-iterator) l.hash l.len;
}
