-- Eight bytes as one number, in words that the fast engine's functions share.
-- Assumes nothing.
use Rattle.std.specs.Prelude.{ℕ, zero, suc, ◌*◌, ◌^◌}
use Rattle.std.specs.Int.Bits.{bit_xor}

-- the n bytes b 0, b 1, .. as one number, the first lowest
unfoldable pub packed : (ℕ → ℕ) → ℕ → ℕ
packed b zero = 0
packed b (suc n) = bit_xor (packed b n) (b n * 2 ^ (8 * n))
