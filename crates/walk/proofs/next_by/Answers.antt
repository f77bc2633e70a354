-- `walk::next_by` meets its contract: the turn's step and place; the segment stays.
use Rattle.std.proofs.Common.{refl}
use Rattle.walk_step.proofs.Stepping.{said, placed}
use Rattle.walk.proofs.next_by.Goals as goal

pub returns : goal.returns
returns c = (said _ _ _ _ c.turn_by-t.ensures, refl, placed _ _ _ _ c.turn_by-t.ensures)
