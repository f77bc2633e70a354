-- The items that are known to be new: those below the lowest fall of the sorted order; and none, which needs no knowledge.
-- Assumes nothing.
use Prim.Native.Nat.{ℕ}
use mathlib.Core.Path.{◌≡◌}
use mathlib.Core.List.{List}
use native.Mathlib.Omega.{arith}
use Rattle.key.specs.declared.Kind.{Kind}
use Rattle.key.specs.Items.{item_key}
use Rattle.key.specs.ItemOrder.{item_leq}
use Rattle.key_repeat.specs.Falls.{sorted_fall}
use Rattle.key_repeat.proofs.Falling.{fall-within, below-differ}
use Rattle.key_duplicate.specs.Known.{Known}

pub known-by-order : (kind : Kind) (bytes list : List ℕ) (n k : ℕ) → k ≡ sorted_fall (item_leq kind bytes list) n → Known (item_key kind bytes list) k n
known-by-order kind bytes list n k e =
    rw e (record {
      within = fall-within (item_leq kind bytes list) n;
      fresh = below-differ kind bytes list n;
    })

pub known-none : (key : ℕ → List ℕ) (n : ℕ) → Known key 0 n
known-none key n = record { within = omega arith; fresh = λ i j a b e. absurd (omega arith) }
