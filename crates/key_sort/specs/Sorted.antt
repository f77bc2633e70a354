-- What a sort leaves.
--   Sorted, SortedIn    the numbers of n items, sorted, and the items' hints; the same of items as they are lent
-- Assumes nothing: these are definitions.
use Rattle.std.specs.Prelude.{ℕ, ◌≡◌, List}
use Rattle.lists.specs.Lists.{sort_by, count_from}
use Rattle.key.specs.declared.Kind.{Kind}
use Rattle.key.specs.declared.Items.{Items as Lent}
use Rattle.key.specs.ItemOrder.{item_leq}
use Rattle.key_hint.specs.Leading.{Hints}

pub record Sorted (kind : Kind) (bytes list : List ℕ) (n : ℕ) (hints numbers : List ℕ) : Type 0 where
  pub hinted : Hints kind bytes list n hints
  pub sorted : numbers ≡ sort_by (item_leq kind bytes list) (count_from 0 n)

abbrev pub SortedIn : Lent → ℕ → List ℕ → List ℕ → Type 0
SortedIn items = Sorted items.kind items.bytes.now items.list.now
