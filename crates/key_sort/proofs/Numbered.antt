-- The numbers of n items, counted up and sorted, with the items' hints: what `key_sort::sorted` needs on the way, and what its promise is good for.
-- Assumes nothing.
use Prim.Native.Nat.{ℕ, ◌≤◌, ◌<◌}
use mathlib.Core.Path.{◌≡◌, ap, ◌∙◌}
use mathlib.Core.Bool.{true}
use mathlib.Core.List.{List}
use native.Mathlib.Omega.{arith}
use lib.ListN.{length}
use Rattle.lists.specs.Lists.{sort_by, count_from, Each}
use Rattle.key.specs.declared.Kind.{Kind}
use Rattle.key.specs.Items.{Items}
use Rattle.key.specs.ItemOrder.{item_leq}
use Rattle.key_hint.specs.Leading.{Hinted, Hints}
use Rattle.key_hint.proofs.Hinting.{hinted}
use Rattle.lists.proofs.Arranged.{each-sort}
use Rattle.lists.proofs.Each.{counted-iff, count-length}
use Rattle.lists.proofs.Sorting.{sort-length}
use Rattle.key.proofs.ItemOrder.{item-order}
use Rattle.key_ascending.specs.Climbs.{climbs}
use Rattle.key_ascending.proofs.Climbing.{stays-sorted}
use Rattle.key_sort.specs.Sorted.{Sorted}

module _ (kind : Kind) (bytes list : List ℕ) (n : ℕ) where
  -- ---- on the way: m hints, as many as there are numbers

  module _ (m : ℕ) (e : m ≡ n) where
    pub to-hint : Items kind bytes list n → Items kind bytes list m
    to-hint items = rw e items

    module _ (hints : List ℕ) (p : Hints kind bytes list m hints) (counted : List ℕ) (c : counted ≡ count_from 0 n) where
      counted-long : length counted ≡ n
      counted-long = ap length c ∙ count-length 0 n

      pub counted-hinted : Items kind bytes list n → Each (Hinted kind bytes list hints) counted
      counted-hinted items = rw c ((counted-iff (Hinted kind bytes list hints) n).1 (hinted kind bytes list n hints (rw e at p) items))

      pub counted-room : (room : ℕ) → n ≤ room → length counted ≤ room
      counted-room room h = omega (arith, counted-long)

      pub numbers-sorted : (numbers : List ℕ) → numbers ≡ sort_by (item_leq kind bytes list) counted → Sorted kind bytes list n hints numbers
      numbers-sorted numbers s = record { hinted = rw e at p; sorted = s ∙ ap (sort_by (item_leq kind bytes list)) c }

      pub counted-items : Items kind bytes list n → Items kind bytes list (length counted)
      counted-items items = rw counted-long items

      -- where the keys climb, the numbers are sorted as they were counted
      pub climb-sorted : climbs (item_leq kind bytes list) (length counted) ≡ true → Sorted kind bytes list n hints counted
      climb-sorted t =
          record {
            hinted = rw e at p;
            sorted = c ∙ stays-sorted (item_leq kind bytes list) (item-order kind bytes list) n (rw counted-long at t);
          }

  -- ---- sorted: each item is there still, and has its hint

  module _ (hints numbers : List ℕ) (s : Sorted kind bytes list n hints numbers) where
    pub sorted-long : length numbers ≡ n
    sorted-long = ap length s.sorted ∙ sort-length (item_leq kind bytes list) (count_from 0 n) ∙ count-length 0 n

    pub sorted-each : (P : ℕ → Type 0) → ((k : ℕ) → k < n → P k) → Each P numbers
    sorted-each P h = rw s.sorted (each-sort (item_leq kind bytes list) P (count_from 0 n) ((counted-iff P n).1 h))

    pub sorted-hinted : Items kind bytes list n → Each (Hinted kind bytes list hints) numbers
    sorted-hinted items = sorted-each (Hinted kind bytes list hints) (hinted kind bytes list n hints s.hinted items)
