-- Steps of a walk, one after the other.
--   turn_of       a step at a place, and the place after it
--   steps_from    what n steps answer, the first of them at a place
--   place_after   where the walk is after n steps from a place
-- Assumes nothing: these are definitions.
use Rattle.std.specs.Prelude.{ℕ, zero, suc, List, [], ◌∷◌}
use Rattle.segment.specs.Walk.{stepped, next_place, Step}
use Rattle.walk_step.specs.declared.Turn.{Turn}

abbrev pub turn_of : List ℕ → List ℕ → ℕ → Turn
turn_of pairs s k = record { step = stepped pairs s k; at = next_place (stepped pairs s k) k }

unfoldable pub steps_from : List ℕ → List ℕ → ℕ → ℕ → List Step
steps_from pairs s k zero = []
steps_from pairs s k (suc n) = (turn_of pairs s k).step ∷ steps_from pairs s (turn_of pairs s k).at n

unfoldable pub place_after : List ℕ → List ℕ → ℕ → ℕ → ℕ
place_after pairs s k zero = k
place_after pairs s k (suc n) = place_after pairs s (turn_of pairs s k).at n
