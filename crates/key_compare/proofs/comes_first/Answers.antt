-- `key_compare::comes_first` meets its contract: the three-way answer, told two ways.
use mathlib.Core.Path.{◌∙◌}
use Rattle.key.specs.ItemOrder.{item_leq}
use Rattle.key_compare.proofs.Compare.{told-leq}
use Rattle.key_compare.proofs.comes_first.Goals as goal

pub returns : goal.returns
unfolding item_leq
returns c = c.is_le.ensures ∙ told-leq _ _ _ c.compare_items.ensures
