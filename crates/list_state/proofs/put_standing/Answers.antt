-- `list_state::put_standing` meets its contract: column after column.
use native.Mathlib.Omega.{arith}
use Rattle.list_columns.specs.Columns.{standing_cells}
use Rattle.list_columns.proofs.ColumnLaws.{three}
use Rattle.list_state.proofs.put_standing.Goals as goal

pub returns : goal.returns
unfolding standing_cells
returns c =
    three c.put_state.ensures c.put_visibility.ensures c.put_source.ensures 36 (omega arith)
