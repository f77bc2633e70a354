-- `Text::put_word` meets its contract: the word is copied, and the byte put behind it.
use Rattle.std.proofs.Common.{refl}
use native.Mathlib.Omega.{arith}
use Rattle.list_digits.proofs.TextLaws.{puts_of, lent, closed}
use Rattle.list_digits.proofs.Text.put_word.Goals as goal

pub returns : goal.returns
returns c =
    let a = c.args in
    let t = a.self.now in
    puts_of refl (closed t.out.now t.at a.word.now a.end _ _ (lent t.out.now a.word.now _ t.at c.copy_from_slice.ensures.after) refl (omega (arith, c.requires)))
