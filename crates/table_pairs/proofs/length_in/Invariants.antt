-- At place i the table says what its pairs from i on say.
use Rattle.std.proofs.Common.{◌≡◌, drop}
use Rattle.table_pairs.specs.Pairs.{length_in}
use Rattle.table_pairs.proofs.length_in.Given as goal

abbrev pub invariant-loop-pair : goal.invariant-loop-pair
invariant-loop-pair l = length_in l.pairs l.hash ≡ length_in (drop l.pair-index l.pairs) l.hash
