-- `c_answer::put_numbers` meets its contract: i numbers are put.
use Rattle.c_answer.proofs.Replies.{putting-start, putting-more}
use Rattle.c_answer.proofs.put_numbers.Goals as goal

pub loop-i-init : goal.loop-i-init
loop-i-init c = putting-start _ _

pub loop-i-preserved : goal.loop-i-preserved
loop-i-preserved c = putting-more _ _ _ _ c.loop-i.invariant c.loop-i-test.true c.requires _ c.put.ensures
