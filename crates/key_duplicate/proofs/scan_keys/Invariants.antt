-- `key_duplicate::scan_keys` meets its contract: every item known or passed is new, and the item at hand equals none of those passed in the inner loop.
use Prim.Native.Nat.{◌≤◌}
use mathlib.Core.Path.{◌≡◌}
use mathlib.Core.Bool.{false}
use Rattle.answer.specs.Rules.{first_over, some_below, accepted}
use Rattle.segment.specs.Keys.{same_key, fresh_key}
use Rattle.key.specs.Items.{item_place}
use Rattle.key.specs.Lent.{key_in}
use Rattle.key_duplicate.proofs.scan_keys.Given as goal

abbrev pub invariant-loop-j : goal.invariant-loop-j
invariant-loop-j l = (l.j ≤ l.i) × (some_below l.j (same_key (key_in l.items) l.i) ≡ false)

abbrev pub invariant-loop-i : goal.invariant-loop-i
invariant-loop-i l = (l.i ≤ l.n) × (first_over l.i (fresh_key (key_in l.items) (item_place l.items.kind)) ≡ accepted)
