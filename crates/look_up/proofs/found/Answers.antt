-- `look_up::found` meets its contract: gone, or present.
use native.Mathlib.Omega.{arith}
use Rattle.look_up.proofs.Finding.{found-gone, found-live}
use Rattle.look_up.proofs.found.Goals as goal

pub returns-then-r-eq1 : goal.returns-then-r-eq1
returns-then-r-eq1 c = found-gone _ _ c.source-origin.ensures (omega arith)

pub returns : goal.returns
returns c = found-live _ _ c.source-origin.ensures (omega arith)
