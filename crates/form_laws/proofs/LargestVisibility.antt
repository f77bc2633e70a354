-- The largest visibility of some rows: none is above it, and where there is a row, one has it.
-- Assumes nothing.
use Prim.Native.Nat.{ℕ, zero, suc, ◌+◌, ◌≤◌, ◌<◌}
use mathlib.Core.Path.{◌≡◌, refl}
use mathlib.Core.Logic.{by_cases}
use mathlib.Core.List.{List, [], ◌∷◌, map}
use native.Mathlib.Decide.{dec_le}
use native.Mathlib.Omega.{arith}
use lib.ListN.{length}
use Rattle.segment.specs.declared.shape.Shape.{Shape}
use Rattle.segment.specs.Meaning.{Row}
use Rattle.lists.specs.Lists.{count_from, Each}
use Rattle.segment.specs.Tidy.{largest_visibility}
use Rattle.form_laws.specs.Form.{Writable}

pub none_above : (v : ℕ) (rs : List Row) → largest_visibility rs ≤ v → Each (λ (r : Row). r.visibility ≤ v) rs
unfolding largest_visibility Each
none_above v [] l = tt
none_above v (r ∷ rs) l = (omega arith, none_above v rs (omega arith))

pub largest-of-none : (rs : List Row) → length rs ≡ 0 → largest_visibility rs ≡ 0
unfolding largest_visibility
largest-of-none [] e = refl
largest-of-none (r ∷ rs) e = absurd (omega arith)

pub largest-fits : (sh : Shape) (pairs : List ℕ) (rs : List Row) → Each (Writable sh pairs) rs → largest_visibility rs ≤ 1
unfolding largest_visibility Each
largest-fits sh pairs [] w = omega arith
largest-fits sh pairs (r ∷ rs) w = omega (arith, w.0.visibility, largest-fits sh pairs rs w.1)

-- of a list f k, f (k + 1), ..
pub one-shown : (f : ℕ → Row) (k n : ℕ) → 0 < n
    → (i : ℕ) × (i < k + n) × ((f i).visibility ≡ largest_visibility (map f (count_from k n)))
unfolding largest_visibility count_from
one-shown f k zero l = absurd (omega arith)
one-shown f k (suc zero) l = (k, omega arith, omega arith)
one-shown f k (suc (suc n)) l =
    let others : ℕ = largest_visibility (map f (count_from (suc k) (suc n))) in
    let a = one-shown f (suc k) (suc n) (omega arith) in
    by_cases (dec_le (f k).visibility others)
    (λ (h : (f k).visibility ≤ others). (a.0, omega arith, omega (arith, a.2)))
    (λ (h : ¬ ((f k).visibility ≤ others)). (k, omega arith, omega arith))
