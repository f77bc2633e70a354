-- `list_columns::put_slice` meets its contract: column after column.
use native.Mathlib.Omega.{arith}
use Rattle.list_columns.specs.Columns.{slice_cells}
use Rattle.list_columns.proofs.ColumnLaws.{two}
use Rattle.list_columns.proofs.put_slice.Goals as goal

pub returns : goal.returns
unfolding slice_cells
returns c =
    rw (c.from.ensures, c.from-2.ensures) at (two c.put_pair.ensures c.put_number.ensures 63 (omega arith))
