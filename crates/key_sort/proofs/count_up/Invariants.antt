-- `key_sort::count_up` meets its contract: k numbers are counted.
use mathlib.Core.Path.{◌≡◌}
use lib.ListN.{take}
use Rattle.lists.specs.Lists.{count_from}
use Rattle.key_sort.proofs.count_up.Given as goal

abbrev pub invariant-loop-k : goal.invariant-loop-k
invariant-loop-k l = take l.k l.numbers ≡ count_from 0 l.k
