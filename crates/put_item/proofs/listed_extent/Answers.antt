-- `put_item::listed_extent` meets its contract: the three numbers, cut.
use Rattle.put_item.proofs.ItemColumns.{cut-extent}
use Rattle.put_item.proofs.listed_extent.Goals as goal

pub returns : goal.returns
returns c = cut-extent _ _
