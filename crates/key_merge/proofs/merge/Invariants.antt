-- `key_merge::merge` meets its contract: what is passed is merged, and the merge of the rest is still to be written.
use Prim.Native.Nat.{◌+◌, ◌≤◌, ◌-◌}
use mathlib.Core.Path.{◌≡◌}
use mathlib.Core.List.{◌++◌}
use lib.ListN.{length, take, drop}
use Rattle.key.specs.Lent.{leq_in}
use Rattle.lists.specs.Lists.{merge_by}
use Rattle.key_merge.proofs.merge.Given as goal

abbrev pub invariant-loop-i : goal.invariant-loop-i
invariant-loop-i l =
    (l.i ≤ length l.a)
    × (l.j ≤ length l.b)
    × (length l.out ≡ length l.initial.out)
    × (merge_by (leq_in l.keys.items) l.a l.b ≡ take (l.i + l.j) l.out ++ merge_by (leq_in l.keys.items) (drop l.i l.a) (drop l.j l.b))

abbrev pub decreases-loop-i : goal.decreases-loop-i
decreases-loop-i l = length l.a + length l.b - (l.i + l.j)
