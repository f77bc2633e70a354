-- `check_header::follows` meets its contract: what is left of the place is told.
use Rattle.check_header.proofs.HeaderRows.{below-part, rest-told}
use Rattle.check_header.proofs.follows.Goals as goal

pub returns-then-section-at : goal.returns-then-section-at
returns-then-section-at c = search below-part

pub returns : goal.returns
returns c = search rest-told
