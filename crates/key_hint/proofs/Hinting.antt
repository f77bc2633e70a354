-- What the hints are good for.
-- Assumes nothing.
use Prim.Native.Nat.{ℕ, ◌<◌}
use mathlib.Core.Path.{◌≡◌, sym, ◌∙◌}
use mathlib.Core.List.{List}
use native.Mathlib.Omega.{arith}
use lib.Seq.{ext_get_or}
use Rattle.key.specs.declared.Kind.{Kind}
use Rattle.key.specs.Items.{Items}
use Rattle.key_hint.specs.Leading.{Hinted, Hints}

module _ (kind : Kind) (bytes list : List ℕ) where
  module _ (n : ℕ) (hints : List ℕ) (p : Hints kind bytes list n hints) where
    -- the promise settles each hint
    pub hints-settled : (others : List ℕ) → Hints kind bytes list n others → hints ≡ others
    hints-settled others q =
        ext_get_or 0 hints others (p.many ∙ sym q.many)
        (λ i l. let h : i < n = omega (arith, p.many) in p.each i h ∙ sym (q.each i h))

    pub hinted : Items kind bytes list n → (k : ℕ) → k < n → Hinted kind bytes list hints k
    hinted items k h = record { item = items.each k h; within = omega (arith, p.many); told = p.each k h }
