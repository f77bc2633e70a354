-- `key::record_span` meets its contract: the record's two fields.
use Rattle.segment.specs.Format.{record_of}
use Rattle.key.specs.Items.{record_span}
use Rattle.key.proofs.record_span.Goals as goal

pub returns : goal.returns
unfolding record_span record_of
returns c = λ j. record { start = c.read-start.ensures j; size = c.read-size.ensures j }
