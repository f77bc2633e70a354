-- `key_ascending::keys_climb` meets its contract: i of the items climb, and the hint of the last of them is at hand.
use Rattle.key_ascending.proofs.Climbing.{Climbing}
use Rattle.key_ascending.proofs.keys_climb.Given as goal

abbrev pub invariant-loop-i : goal.invariant-loop-i
invariant-loop-i l = Climbing l.items.kind l.items.bytes.now l.items.list.now l.i l.before
