-- `list_input::more` meets its contract: what is put is the part of what the input is.
use mathlib.Core.Path.{◌∙◌, refl}
use native.Mathlib.Omega.{arith}
use Rattle.check_book.proofs.Readable.{checked-readable}
use Rattle.list_digits.proofs.TextLaws.{nothing}
use Rattle.list_input.proofs.PartLaws.{part-full, part-long, part-refused, part-listed, check-told, part-told}
use Rattle.list_input.proofs.more.Goals as goal

pub returns-then-out-lt-LONGEST : goal.returns-then-out-lt-LONGEST
returns-then-out-lt-LONGEST c = part-told _ _ _ _ _ 0 _ (part-full _ _ _ (omega (arith, c.if-out-lt-LONGEST.true))) (omega arith) (record { put = nothing 0 _ 0 (omega arith); next = refl })

pub returns-then-input-gt-MOST : goal.returns-then-input-gt-MOST
returns-then-input-gt-MOST c = part-told _ _ _ _ _ _ _ (part-long _ _ _ (omega (arith, c.if-out-lt-LONGEST.false)) (omega (arith, c.if-input-gt-MOST.true))) (omega (arith, c.if-out-lt-LONGEST.false)) c.put_long.ensures

pub fill-requires : goal.fill-requires
fill-requires c = checked-readable _ _ (check-told _ _ _ c.check_by.ensures ∙ c.in-Ok.is)

pub returns-in-Err : goal.returns-in-Err
returns-in-Err c = part-told _ _ _ _ _ _ _
    (part-refused _ _ _ (omega (arith, c.if-out-lt-LONGEST.false)) (omega (arith, c.if-input-gt-MOST.false)) _ (check-told _ _ _ c.check_by.ensures ∙ c.in-Err.is))
    (omega (arith, c.if-out-lt-LONGEST.false)) c.put_refused.ensures

pub returns-in-Ok : goal.returns-in-Ok
returns-in-Ok c = part-told _ _ _ _ _ _ _
    (part-listed _ _ _ (omega (arith, c.if-out-lt-LONGEST.false)) (omega (arith, c.if-input-gt-MOST.false)) (check-told _ _ _ c.check_by.ensures ∙ c.in-Ok.is))
    (omega arith) c.fill.ensures
