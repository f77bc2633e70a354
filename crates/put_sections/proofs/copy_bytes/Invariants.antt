-- `put_sections::copy_bytes` meets its contract: i bytes are copied.
use Rattle.numbers.proofs.Copies.{Copying}
use Rattle.put_sections.proofs.copy_bytes.Given as goal

abbrev pub invariant-loop-i : goal.invariant-loop-i
invariant-loop-i l = Copying l.from l.initial.out l.at l.i l.out
