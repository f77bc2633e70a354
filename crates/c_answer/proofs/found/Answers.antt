-- `c_answer::found` meets its contract: with a source or without.
use Rattle.c_answer.proofs.Replies.{of_none, of-domain}
use Rattle.c_answer.proofs.found.Goals as goal

pub returns-in-None : goal.returns-in-None
returns-in-None c = of_none _ _ _ _ _ _ _ c.in-None.is

pub returns-in-Some : goal.returns-in-Some
returns-in-Some c = of-domain _ _ _ _ _ _ _ c.in-Some.from c.in-Some.is
