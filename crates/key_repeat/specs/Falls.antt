-- Where keys do not climb.
--   lowest_fall    the lowest of some numbers that comes no later than the one before it
--   sorted_fall    the same in the sorted order of n items
-- Assumes nothing: these are definitions.
use Rattle.std.specs.Prelude.{ℕ, zero, suc, ◌-◌, Bool, cond, ◌&&◌, List, ltb, length, get_or}
use Rattle.lists.specs.Lists.{sort_by, count_from}

-- x, if it falls and is lower
unfoldable pub lower : Bool → ℕ → ℕ → ℕ
lower falls x least = cond (falls && ltb x least) x least

-- of the first k numbers after the first one; if none falls, as many as there are numbers
unfoldable pub lowest_fall : (ℕ → ℕ → Bool) → List ℕ → ℕ → ℕ
lowest_fall leq numbers zero = length numbers
lowest_fall leq numbers (suc k) = lower (leq (get_or numbers (suc k) 0) (get_or numbers k 0)) (get_or numbers (suc k) 0) (lowest_fall leq numbers k)

unfoldable pub sorted_fall : (ℕ → ℕ → Bool) → ℕ → ℕ
sorted_fall leq n = lowest_fall leq (sort_by leq (count_from 0 n)) (n - 1)
