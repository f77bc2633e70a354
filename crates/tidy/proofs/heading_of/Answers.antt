-- `tidy::heading_of` meets its contract: four numbers of the header, two of the footer.
use Rattle.segment.specs.Meaning.{heading_of}
use Rattle.tidy.proofs.heading_of.Goals as goal

pub returns : goal.returns
unfolding heading_of
returns c = rw c.at-f.ensures
