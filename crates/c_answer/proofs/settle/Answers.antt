-- `c_answer::settle` meets its contract: a length, or a refusal.
use Rattle.c_answer.proofs.Replies.{settled-done, settled-refused}
use Rattle.c_answer.proofs.settle.Goals as goal

pub returns-in-Ok : goal.returns-in-Ok
returns-in-Ok c = settled-done _ _ _ c.in-Ok.is c.bits.ensures

pub returns-in-Err : goal.returns-in-Err
returns-in-Err c = settled-refused _ _ _ c.in-Err.is c.refuse.ensures
