-- `key_hint::put_hints` meets its contract: k hints have been put.
use Prim.Native.Nat.{ℕ, ◌<◌}
use mathlib.Core.Path.{◌≡◌}
use lib.ListN.{get_or}
use Rattle.key_hint.specs.Lent.{hint_in}
use Rattle.key_hint.proofs.put_hints.Given as goal

abbrev pub invariant-loop-k : goal.invariant-loop-k
invariant-loop-k l = (i : ℕ) → i < l.k → get_or l.hints i 0 ≡ hint_in l.items i
