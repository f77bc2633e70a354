-- Which engine a number asks for.
-- Assumes nothing.
use Rattle.std.specs.Prelude.{ℕ, cond, eqb}
use Rattle.checksum.specs.declared.Engine.{Engine}
use Rattle.checksum.specs.declared.Engine.TheVariants.{Fast, Plain}

unfoldable pub engine_of : ℕ → Engine
engine_of n = cond (eqb n 1) Plain Fast
