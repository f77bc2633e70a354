-- `Text::put_hex` meets its contract: the bytes before this one are spelled.
use Rattle.list_digits.proofs.TextLaws.{Spelling}
use Rattle.list_digits.proofs.Text.put_hex.Given as goal

abbrev pub invariant-loop-b : goal.invariant-loop-b
invariant-loop-b l = Spelling l.digest l.initial.self l.b-index l.self
