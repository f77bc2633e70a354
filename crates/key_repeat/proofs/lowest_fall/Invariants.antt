-- `key_repeat::lowest_fall` meets its contract: the numbers before k have been looked at.
use Prim.Native.Nat.{◌-◌, ◌≤◌}
use mathlib.Core.Path.{◌≡◌}
use lib.ListN.{length}
use Rattle.key.specs.Lent.{leq_in}
use Rattle.key_repeat.specs.Falls.{lowest_fall}
use Rattle.key_repeat.proofs.lowest_fall.Given as goal

abbrev pub invariant-loop-k : goal.invariant-loop-k
invariant-loop-k l = (l.k - 1 ≤ length l.numbers - 1) × (l.least ≡ lowest_fall (leq_in l.keys.items) l.numbers (l.k - 1))
