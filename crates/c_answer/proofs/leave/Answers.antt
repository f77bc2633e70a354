-- `c_answer::leave` meets its contract: refused, or given.
use native.Mathlib.Omega.{arith}
use Rattle.c_answer.proofs.Replies.{left-refused, left-given}
use Rattle.c_answer.proofs.leave.Goals as goal

pub bits-requires : goal.bits-requires
bits-requires c = let said = c.requires in record { number_bound = said.number; value_lt_value_limit = said.place }

pub returns-then-a-ne0 : goal.returns-then-a-ne0
returns-then-a-ne0 c = left-refused _ _ _ (omega (arith, c.if-a-ne0.true)) c.bits.ensures

pub give-requires : goal.give-requires
give-requires c = let said = c.requires in record { value_lt_value_limit = said.state; values_len_bound = omega (arith, said.long) }

pub returns : goal.returns
returns c = left-given _ _ _ (omega (arith, c.if-a-ne0.false)) c.give.ensures
