-- A stretch that is filled from the front: what is filled, and what is still to come, are the whole. Each turn of a writer's loop puts the first
-- part of what is to come.
-- Assumes nothing.
use Prim.Native.Nat.{ℕ, ◌+◌, ◌≤◌}
use mathlib.Core.Path.{◌≡◌, refl, sym, ap, ◌∙◌}
use mathlib.Core.List.{List, [], ◌++◌, append-nil, append_assoc}
use native.Mathlib.Omega.{arith}
use lib.ListN.{length, take, drop, length-append}
use lib.Seq.{take_at, take_all, length-take-le}
use Rattle.numbers.specs.Numbers.{put}
use Rattle.numbers.proofs.NumberLaws.{length-put}

pub record Filling (whole out : List ℕ) (at : ℕ) (rest : List ℕ) : Type 0 where
  pub within : at ≤ length out
  pub same : whole ≡ take at out ++ rest

pub filling-start : (whole out : List ℕ) → Filling whole out 0 whole
filling-start whole out = record { within = omega arith; same = refl }

module _ (whole out : List ℕ) (at : ℕ) (rest : List ℕ) (f : Filling whole out at rest) where
  filled : length whole ≡ at + length rest
  filled = ap length f.same ∙ length-append (take at out) rest ∙ ap (λ (n : ℕ). n + length rest) (length-take-le at out f.within)

  pub filling-done : rest ≡ [] → length out ≡ length whole → out ≡ whole
  filling-done e l =
      let n : length rest ≡ 0 = ap length e in
      sym (f.same ∙ rw e (append-nil (take at out)) ∙ take_all at out (omega (arith, filled)))

  module _ (bs after : List ℕ) (e : rest ≡ bs ++ after) where
    pub filling-room : length out ≡ length whole → at + length bs ≤ length out
    filling-room l = omega (arith, filled, ap length e, length-append bs after)

    pub filling-more : (out' : List ℕ) → out' ≡ put out at bs → at + length bs ≤ length out → Filling whole out' (at + length bs) after
    unfolding put
    filling-more out' p h =
        let n : length (take at out ++ bs) ≡ at + length bs = length-append (take at out) bs ∙ ap (λ (m : ℕ). m + length bs) (length-take-le at out f.within) in
        let t : take (at + length bs) out' ≡ take at out ++ bs = ap (take (at + length bs)) p ∙ take_at (take at out ++ bs) (drop (at + length bs) out) (at + length bs) n in
        let l : length out' ≡ length out = ap length p ∙ length-put out at bs h in
        record { within = omega arith; same = f.same ∙ rw (e, t) (sym (append_assoc (take at out) bs after)) }
