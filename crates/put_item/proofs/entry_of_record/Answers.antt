-- `put_item::entry_of_record` meets its contract: field by field.
use Rattle.std.proofs.Common.{rules}
use Rattle.put_item.specs.Lines.{record_entry}
use Rattle.put_item.proofs.entry_of_record.Goals as goal

pub returns : goal.returns
unfolding record_entry
returns c = search rules
