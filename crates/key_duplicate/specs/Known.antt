-- What is known of the first items before the scan.
--   Known         the first items are known to be new
-- Assumes nothing: this is a definition.
use Rattle.std.specs.Prelude.{ℕ, ◌≤◌, List}
use Rattle.segment.specs.Keys.{NoKeyTwice}

-- no two of the first k of n items have the same key
pub record Known (key : ℕ → List ℕ) (k n : ℕ) : Type 0 where
  pub within : k ≤ n
  pub fresh : NoKeyTwice key k
