-- The rule of the fast engine's tables: eight of 256 numbers, one after the other in one list.
-- Assumes nothing.
use Rattle.std.specs.Prelude.{◌≡◌, List, ℕ, ◌+◌, ◌*◌, ◌<◌, get_or}
use Rattle.crc64.specs.Crc.{steps}

-- number b of table k is the byte b after 8 * k + 8 steps
pub record Tables (t : List ℕ) : Type 0 where
  pub entry : (k b : ℕ) → k < 8 → b < 256 → get_or t (k * 256 + b) 0 ≡ steps (8 * k + 8) b
