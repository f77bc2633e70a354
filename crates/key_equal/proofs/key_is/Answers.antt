-- `key_equal::key_is` meets its contract: the item's columns, compared with the key, and the answer told two ways.
use mathlib.Core.Path.{◌∙◌}
use Rattle.key_compare.proofs.Compare.{item-told, told-same}
use Rattle.key_equal.proofs.key_is.Goals as goal

pub returns : goal.returns
returns c =
    c.is_eq.ensures ∙ told-same _ _ _ (item-told _ _ _ _ _ _ _ _ c.head-own.ensures c.digest.ensures c.compare_keys.ensures)
