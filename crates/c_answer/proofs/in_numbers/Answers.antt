-- `c_answer::in_numbers` meets its contract: an answer's numbers, or a refusal's.
use Rattle.c_answer.proofs.Replies.{reply-answered, reply-refused}
use Rattle.c_answer.proofs.in_numbers.Goals as goal

pub returns-in-Ok : goal.returns-in-Ok
returns-in-Ok c = reply-answered _ c.in-Ok.is c.answered.ensures

pub returns-in-Err : goal.returns-in-Err
returns-in-Err c = reply-refused _ {x = c.in-Err.r} c.in-Err.is c.number.ensures c.place.ensures
