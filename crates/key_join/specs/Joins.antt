-- What a join asks of the numbers.
--   Joins              a list in two parts, the first of which ascends
-- Assumes nothing: this is a definition.
use Rattle.std.specs.Prelude.{ℕ, ◌≤◌, ◌<◌, Bool, List, length, take}
use Rattle.lists.specs.Lists.{Ascending}

-- both parts have an element, and the first has m
pub record Joins {A : Type 0} (leq : A → A → Bool) (m : ℕ) (numbers : List A) : Type 0 where
  pub some : 1 ≤ m
  pub others : m < length numbers
  pub ascends : Ascending leq (take m numbers)
