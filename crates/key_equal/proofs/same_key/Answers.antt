-- `key_equal::same_key` meets its contract: the three-way answer, told two ways.
use mathlib.Core.Path.{◌∙◌}
use Rattle.key_compare.proofs.Compare.{told-same}
use Rattle.key_equal.proofs.same_key.Goals as goal

pub returns : goal.returns
returns c = c.is_eq.ensures ∙ told-same _ _ _ c.compare_items.ensures
