-- A list that is copied into another, one number to a turn: what stands there after some turns.
-- Assumes nothing.
use Prim.Native.Nat.{ℕ, ◌+◌, ◌≤◌, ◌<◌}
use mathlib.Core.Path.{◌≡◌, refl, sym, ap, ◌∙◌}
use mathlib.Core.List.{List, [], ◌∷◌, ◌++◌}
use native.Mathlib.Numerals.{add-one}
use native.Mathlib.Omega.{arith}
use lib.ListN.{length, length-set, get_or, set, take}
use lib.Seq.{take_all, take-suc, length-take-le}
use Rattle.numbers.specs.Numbers.{put}
use Rattle.numbers.proofs.NumberLaws.{put-put, put-none, set-put}

pub record Copying (from out₀ : List ℕ) (at i : ℕ) (out : List ℕ) : Type 0 where
  pub within : i ≤ length from
  pub same : length out ≡ length out₀
  pub done : out ≡ put out₀ at (take i from)

pub copying-start : (from out : List ℕ) (at : ℕ) → Copying from out at 0 out
copying-start from out at = record { within = omega arith; same = refl; done = sym (put-none out at) }

module _ (from out₀ : List ℕ) (at i : ℕ) (out : List ℕ) (c : Copying from out₀ at i out) where
  pub copying-more : i < length from → at + length from ≤ length out₀ → Copying from out₀ at (i + 1) (set out (at + i) (get_or from i 0))
  copying-more h r =
      let n : length (take i from) ≡ i = length-take-le i from (omega arith) in
      let j : put (put out₀ at (take i from)) (at + i) (get_or from i 0 ∷ []) ≡ put out₀ at (take i from ++ (get_or from i 0 ∷ [])) =
      rw n at (put-put out₀ at (take i from) (get_or from i 0 ∷ []) (omega arith)) in
      let s : set out (at + i) (get_or from i 0) ≡ put out (at + i) (get_or from i 0 ∷ []) = set-put out (at + i) (get_or from i 0) (omega (arith, c.same)) in
      record {
        within = omega arith;
        same = length-set out (at + i) (get_or from i 0) ∙ c.same;
        done = s ∙ ap (λ (o : List ℕ). put o (at + i) (get_or from i 0 ∷ [])) c.done ∙ j ∙ rw (add-one, take-suc from i 0 h);
      }

  pub copying-done : length from ≤ i → out ≡ put out₀ at from
  copying-done h = c.done ∙ ap (put out₀ at) (take_all i from h)
