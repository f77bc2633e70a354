-- What a step of the walk promises of a walker under a table.
-- Assumes nothing.
use Rattle.std.specs.Prelude.{◌≡◌, List, ℕ}
use Rattle.segment.specs.Walk.{next_place, step_answer, step_of, Step}
use Rattle.walk.specs.declared.Walker.{Walker}

-- the answer is the step at the walker's place; after it the walker has the same segment, and the place after the answer
abbrev pub Taken : List ℕ → Walker → Step × Walker → Type 0
Taken pairs w y =
    (step_answer y.0 ≡ step_of pairs w.segment.now w.at)
    × (y.1.segment ≡ w.segment)
    × (y.1.at ≡ next_place y.0 w.at)
