-- `list_record::put_record` meets its contract: group after group.
use native.Mathlib.Omega.{arith}
use Rattle.list_digits.proofs.TextLaws.{puts_as}
use Rattle.list_columns.proofs.ColumnLaws.{three}
use Rattle.list_record.proofs.Cells.{record-line}
use Rattle.list_record.proofs.put_record.Goals as goal

pub returns : goal.returns
returns c =
    puts_as (rw c.from.ensures at (three c.put_identity.ensures c.put_standing.ensures c.put_pair.ensures 2169 (omega arith))) (record-line _ _ _) (omega arith)
