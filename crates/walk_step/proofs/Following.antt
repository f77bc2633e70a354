-- Steps one after the other: of a refused segment every step refuses as check does, and the walk stays; of an accepted one the steps give the
-- records in order, and past the last record they say done and the walk stays.
-- Assumes nothing.
use Prim.Native.Nat.{ℕ, zero, suc, ◌+◌, ◌≤◌}
use mathlib.Core.Path.{◌≡◌, refl, ap, ◌∙◌}
use mathlib.Core.List.{List, ◌∷◌, map}
use native.Mathlib.Omega.{arith}
use lib.ListN.{replicate}
use Rattle.std.specs.Prelude.{Err, None, Ok, Some}
use Rattle.segment.specs.Walk.{Step}
use Rattle.answer.specs.Rules.{accepted}
use Rattle.answer.specs.declared.Refusal.{Refusal}
use Rattle.segment.specs.Format.{v3, header_of, record_count, record_no}
use Rattle.segment.specs.Check.{checked}
use Rattle.lists.specs.Lists.{count_from}
use Rattle.walk_step.specs.Steps.{steps_from, place_after}
use Rattle.walk_step.proofs.Stepping.{step-row-iff, step-done-iff, step-refused-iff}

module _ (pairs s : List ℕ) where
  -- n steps from k on answer so, and the walk is then at p
  abbrev pub Steps : ℕ → ℕ → List Step → ℕ → Type 0
  Steps k n ts p = (steps_from pairs s k n ≡ ts) × (place_after pairs s k n ≡ p)

  pub refused-stays : (x : Refusal) → checked pairs s ≡ Err x → (k n : ℕ) → Steps k n (replicate n (Err x)) k
  unfolding steps_from place_after
  refused-stays x e k zero = (refl, refl)
  refused-stays x e k (suc n) =
      let more = refused-stays x e k n in
      rw ((step-refused-iff pairs s k x).1 e) (ap (◌∷◌ (Err x)) more.0, more.1)

  module _ (e : checked pairs s ≡ accepted) where
    pub done-stays : (k n : ℕ) → record_count (header_of s) ≤ k → Steps k n (replicate n (Ok None)) k
    unfolding steps_from place_after
    done-stays k zero l = (refl, refl)
    done-stays k (suc n) l =
        let more = done-stays k n l in
        rw ((step-done-iff pairs s k).1 (e, l)) (ap (◌∷◌ (Ok None)) more.0, more.1)

    -- a step that gives record k
    abbrev pub row_step : ℕ → Step
    row_step k = Ok (Some (record_no v3 s (header_of s) k))

    rows-follow : (k n : ℕ) → k + n ≤ record_count (header_of s) → Steps k n (map row_step (count_from k n)) (k + n)
    unfolding steps_from place_after count_from
    rows-follow k zero l = (refl, omega arith)
    rows-follow k (suc n) l =
        let more = rows-follow (suc k) n (omega arith) in
        rw ((step-row-iff pairs s k (record_no v3 s (header_of s) k)).1 (e, (omega arith, refl)))
        (ap (◌∷◌ (row_step k)) more.0, more.1 ∙ omega arith)

    pub rows-in-order : (n : ℕ) → n ≤ record_count (header_of s) → Steps 0 n (map row_step (count_from 0 n)) n
    rows-in-order n l = let all = rows-follow 0 n (omega arith) in (all.0, all.1 ∙ omega arith)
