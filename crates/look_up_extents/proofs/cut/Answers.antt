-- `look_up_extents::cut` meets its contract: the bytes between two places.
use Rattle.look_up_extents.proofs.Parts.{between}
use Rattle.look_up_extents.proofs.cut.Goals as goal

pub returns : goal.returns
returns c = search between
