-- Whether keys climb.
--   climbs        whether each of some items comes before the next
-- Assumes nothing: this is a definition.
use Rattle.std.specs.Prelude.{ℕ, zero, suc, Bool, true, not, ◌&&◌}

-- of 0, 1, .. below n, each comes before the next: the next does not come as early
unfoldable pub climbs : (ℕ → ℕ → Bool) → ℕ → Bool
climbs leq zero = true
climbs leq (suc zero) = true
climbs leq (suc (suc n)) = climbs leq (suc n) && not (leq (suc n) n)
