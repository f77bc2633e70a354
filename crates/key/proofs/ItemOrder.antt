-- The order of items by their keys is total, and of items whose keys are distinct no two come no later than each other.
-- Assumes nothing.
use Prim.Native.Nat.{ℕ, ◌<◌}
use mathlib.Core.List.{List}
use Rattle.lists.proofs.Lex.{lex-anti, key-order}
use Rattle.lists.proofs.Sorting.{Total}
use Rattle.lists.proofs.Arranged.{Anti}
use Rattle.segment.specs.Keys.{NoKeyTwice}
use Rattle.key.specs.declared.Kind.{Kind}
use Rattle.key.specs.Items.{item_key}
use Rattle.key.specs.ItemOrder.{item_leq}

pub item-anti : (kind : Kind) (bytes list : List ℕ) (n : ℕ) → NoKeyTwice (item_key kind bytes list) n → Anti (item_leq kind bytes list) (λ (i : ℕ). i < n)
unfolding item_leq
item-anti kind bytes list n d a b p q h k = d a b p q (lex-anti (item_key kind bytes list a) (item_key kind bytes list b) h k)

pub item-order : (kind : Kind) (bytes list : List ℕ) → Total (item_leq kind bytes list)
unfolding item_leq
item-order kind bytes list = key-order (item_key kind bytes list)
