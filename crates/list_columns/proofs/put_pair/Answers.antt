-- `list_columns::put_pair` meets its contract: one number, and the other.
use native.Mathlib.Omega.{arith}
use Rattle.list_columns.proofs.ColumnLaws.{two}
use Rattle.list_columns.proofs.put_pair.Goals as goal

pub returns : goal.returns
returns c =
    two c.put_number.ensures c.put_number-2.ensures 42 (omega arith)
