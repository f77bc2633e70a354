-- `list_columns::put_named` meets its contract: the name, and the number.
use native.Mathlib.Omega.{arith}
use Rattle.list_columns.proofs.ColumnLaws.{two}
use Rattle.list_columns.proofs.put_named.Goals as goal

pub returns : goal.returns
returns c =
    two c.put_word.ensures c.put_number.ensures _ (omega arith)
