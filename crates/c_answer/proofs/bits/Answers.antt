-- `c_answer::bits` meets its contract: a sum.
use native.Mathlib.Omega.{arith}
use Rattle.c_answer.specs.Boundary.{answer_bits}
use Rattle.c_answer.proofs.bits.Goals as goal

pub returns : goal.returns
unfolding answer_bits
returns c = omega arith
