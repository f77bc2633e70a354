-- `list_columns::put_extent` meets its contract: column after column.
use native.Mathlib.Omega.{arith}
use Rattle.list_digits.proofs.TextLaws.{puts_as}
use Rattle.list_columns.proofs.ColumnLaws.{two, extent-line}
use Rattle.list_columns.proofs.put_extent.Goals as goal

pub returns : goal.returns
returns c =
    puts_as (two c.put_pair.ensures c.put_slice.ensures 105 (omega arith)) (extent-line _ _ _) (omega arith)
