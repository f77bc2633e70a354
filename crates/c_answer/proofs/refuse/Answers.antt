-- `c_answer::refuse` meets its contract: the refusal's number and place.
use native.Mathlib.Omega.{arith}
use Rattle.c_answer.proofs.Replies.{rule-small, refused-bits}
use Rattle.c_answer.proofs.refuse.Goals as goal

pub bits-requires : goal.bits-requires
bits-requires c =
    record { number_bound = omega (arith, c.number.ensures, rule-small c.args.r.0); value_lt_value_limit = omega (arith, c.place.ensures, c.requires) }

pub returns : goal.returns
returns c = refused-bits c.args.r _ _ _ c.number.ensures c.place.ensures c.bits.ensures
