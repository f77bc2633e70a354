-- `c_answer::give` meets its contract: no room, or put.
use native.Mathlib.Omega.{arith}
use lib.Dec.{lit<}
use Rattle.c_answer.proofs.Replies.{given-room, given-put}
use Rattle.c_answer.proofs.give.Goals as goal

pub overflow_mul-values : goal.overflow_mul-values
overflow_mul-values c = omega arith

pub refuse-requires : goal.refuse-requires
refuse-requires c = lit< tt

pub returns-then-out-values : goal.returns-then-out-values
returns-then-out-values c = given-room _ _ _ _ (omega arith) c.refuse.ensures

pub put_numbers-requires : goal.put_numbers-requires
put_numbers-requires c = c.if-out-values.false

pub bits-requires : goal.bits-requires
bits-requires c = record { number_bound = lit< tt; value_lt_value_limit = c.requires.value_lt_value_limit }

pub returns : goal.returns
returns c =
    given-put _ _ _ _ _ c.if-out-values.false c.put_numbers.ensures c.bits.ensures
