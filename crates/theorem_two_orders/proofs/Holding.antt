-- A segment holds some records by three computations: of its bytes, of the check and of its meaning.
-- Assumes nothing.
use Prim.Native.Nat.{ℕ}
use mathlib.Core.Path.{◌≡◌}
use mathlib.Core.Bool.{true}
use mathlib.Core.List.{List, []}
use Rattle.segment.specs.Format.{v3}
use Rattle.segment.specs.Check.{check_of}
use Rattle.segment.specs.Meaning.{Row, meaning_of}
use Rattle.theorem_demands.specs.Answered.{accepted}
use Rattle.theorem_cases.proofs.Sealed.{all_bytes, all-bytes}
use Rattle.theorem_two_orders.specs.Orders.{table, heading_l, Holds}

pub held : (s : List ℕ) (rows : List Row) → all_bytes s ≡ true → check_of table s ≡ accepted
    → meaning_of v3 s ≡ record { heading = heading_l; bloom = []; records = rows } → Holds s rows
held s rows b a m = record { bytes = all-bytes s b; accepts = a; means = m }
