-- `table::stands` meets its contract: what the whole list says is what its rest says.
use Rattle.std.proofs.Common.{◌≡◌}
use Rattle.std.specs.Slice.Iter.{chunks_exact_rest, chunks_exact_size}
use Rattle.table.specs.Table.{stands}
use Rattle.table.proofs.stands.Given as goal

abbrev pub invariant-loop-pair : goal.invariant-loop-pair
invariant-loop-pair l = record { two : chunks_exact_size l.pair-iterator ≡ 2; same : stands l.pairs l.hash ≡ stands (chunks_exact_rest l.pair-iterator) l.hash }
