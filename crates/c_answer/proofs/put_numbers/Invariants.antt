-- `c_answer::put_numbers` meets its contract: i numbers are put.
use Rattle.c_answer.proofs.Replies.{Putting}
use Rattle.c_answer.proofs.put_numbers.Given as goal

abbrev pub invariant-loop-i : goal.invariant-loop-i
invariant-loop-i l = Putting l.values l.initial.out l.i l.out
