-- `walk::step_from_by` meets its contract: the turn's step.
use Rattle.walk_step.proofs.Stepping.{said}
use Rattle.walk.proofs.step_from_by.Goals as goal

pub returns : goal.returns
returns c = said _ _ _ _ c.turn_by-t.ensures
