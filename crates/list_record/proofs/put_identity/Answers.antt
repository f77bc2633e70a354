-- `list_record::put_identity` meets its contract: column after column.
use native.Mathlib.Omega.{arith}
use Rattle.list_columns.proofs.ColumnLaws.{two}
use Rattle.list_record.proofs.put_identity.Goals as goal

pub returns : goal.returns
returns c =
    rw c.from.ensures at (two c.put_pair.ensures c.put_hex.ensures 2091 (omega arith))
