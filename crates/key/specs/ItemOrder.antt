-- The order of keys.
--   item_leq    whether an item's key comes no later than another's
-- Assumes nothing: this is a definition.
use Rattle.std.specs.Prelude.{ℕ, Bool, List}
use Rattle.lists.specs.Lists.{lex_leq}
use Rattle.key.specs.declared.Kind.{Kind}
use Rattle.key.specs.Items.{item_key}

unfoldable pub item_leq : Kind → List ℕ → List ℕ → ℕ → ℕ → Bool
item_leq kind bytes list i j = lex_leq (item_key kind bytes list i) (item_key kind bytes list j)
