-- `Text::put_number` meets its contract: what io spells is a word.
use native.Mathlib.Omega.{arith}
use Rattle.list_digits.proofs.TextLaws.{puts_of, spelled-word}
use Rattle.list_digits.proofs.Text.put_number.Goals as goal

pub returns : goal.returns
returns c =
    let d = c.decimal-k.ensures in
    let word = c.put_word.ensures in
    puts_of word.same_reference (spelled-word _ _ _ (omega arith) d.len d.digits d.in_bounds.0 _ _ _ _ _ word.put)
