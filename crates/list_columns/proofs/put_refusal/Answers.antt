-- `list_columns::put_refusal` meets its contract: the number, and the place.
use native.Mathlib.Omega.{arith}
use Rattle.list_digits.proofs.TextLaws.{puts_as}
use Rattle.list_columns.proofs.ColumnLaws.{two, refusal-line}
use Rattle.list_columns.proofs.put_refusal.Goals as goal

pub returns : goal.returns
returns c =
    puts_as
    (two c.put_named.ensures c.put_named-2.ensures 53 (omega arith))
    (refusal-line _ _ _ c.number.ensures c.place.ensures) (omega arith)
