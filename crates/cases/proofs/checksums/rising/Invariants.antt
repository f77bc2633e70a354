-- `cases::checksums::rising` meets its contract: each store keeps the block's 1024 bytes.
use mathlib.Core.Path.{◌≡◌}
use lib.ListN.{length}
use Rattle.cases.proofs.checksums.rising.Given as goal

abbrev pub invariant-loop-i : goal.invariant-loop-i
invariant-loop-i l = 1024 ≡ length l.block
