-- `list_columns::put_count` meets its contract: the name, and the number at the line's end.
use mathlib.Core.Path.{refl}
use native.Mathlib.Omega.{arith}
use Rattle.list_digits.proofs.TextLaws.{puts_as}
use Rattle.list_columns.specs.Listing.{count_line}
use Rattle.list_columns.proofs.put_count.Goals as goal

pub returns : goal.returns
unfolding count_line
returns c = puts_as c.put_named.ensures refl (omega arith)
