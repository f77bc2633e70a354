-- The length falls at each call.
use Rattle.std.proofs.Common.{length}
use Rattle.key_sort.proofs.+sort.Given as goal

abbrev pub decreases-sort : goal.decreases-sort
decreases-sort l = length l.numbers.now
