-- `key_repeat::sorted_fall` meets its contract: sorted, passed.
use Rattle.key_sort.proofs.Numbered.{sorted-hinted}
use Rattle.key_repeat.proofs.Falling.{sorted-falls}
use Rattle.key_repeat.proofs.sorted_fall.Goals as goal

pub lowest_fall-requires : goal.lowest_fall-requires
lowest_fall-requires c = sorted-hinted _ _ _ _ _ _ c.sorted.ensures c.requires.items

pub returns : goal.returns
returns c = sorted-falls _ _ _ _ _ _ c.sorted.ensures c.lowest_fall.ensures
