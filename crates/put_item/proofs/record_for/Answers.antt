-- `put_item::record_for` meets its contract: field by field.
use Rattle.put_item.specs.Lines.{record_of_entry}
use Rattle.put_item.proofs.record_for.Goals as goal

pub returns : goal.returns
unfolding record_of_entry
returns c = rw c.extents_place-place.ensures
