-- `key_join::copy_front` meets its contract: i numbers are copied.
use mathlib.Core.Path.{◌≡◌}
use lib.ListN.{take}
use Rattle.key_join.proofs.copy_front.Given as goal

abbrev pub invariant-loop-i : goal.invariant-loop-i
invariant-loop-i l = take l.i l.to ≡ take l.i l.from
