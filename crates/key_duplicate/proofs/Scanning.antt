-- What the scan shows: an item that is passed is new, and where it stops stands the first whose key stands earlier.
-- Assumes nothing.
use Prim.Native.Nat.{ℕ, ◌+◌, ◌≤◌, ◌<◌}
use mathlib.Core.Path.{◌≡◌, sym, ap, subst, ◌∙◌}
use mathlib.Core.Bool.{Bool, true, false}
use mathlib.Core.List.{List}
use native.Mathlib.Omega.{arith}
use Rattle.std.specs.Prelude.{Err}
use Rattle.answer.specs.declared.Rule.TheVariants.{Duplicate}
use Rattle.answer.specs.Answers.{refusal}
use Rattle.answer.specs.Rules.{first_over, some_below, accepted}
use Rattle.answer.proofs.Order.{first_more, first-refused, some_more}
use Rattle.segment.specs.Keys.{same_key, fresh_key}
use Rattle.key.proofs.Duplicates.{stands-earlier, is-new}

-- the item i has been compared with j of those before it, and with one more
pub another : (key : ℕ → List ℕ) (i j : ℕ) {same : Bool} → j < i → some_below j (same_key key i) ≡ false → same ≡ same_key key i j → same ≡ false
    → (j + 1 ≤ i) × (some_below (j + 1) (same_key key i) ≡ false)
another key i j h none e f = (omega arith, some_more j (same_key key i) none (sym e ∙ f))

-- the items before i are new
module _ (key : ℕ → List ℕ) (place : ℕ → ℕ) (i : ℕ) (so_far : first_over i (fresh_key key place) ≡ accepted) where
  -- the item i has been compared with all of them, and it is new
  pub passed : (n j : ℕ) → i < n → i ≤ j → j ≤ i → some_below j (same_key key i) ≡ false → (i + 1 ≤ n) × (first_over (i + 1) (fresh_key key place) ≡ accepted)
  passed n j h l m none =
      let e : j ≡ i = omega arith in
      (omega arith, first_more i (fresh_key key place) so_far (is-new key place i (subst (λ (x : ℕ). some_below x (same_key key i) ≡ false) e none)))

  pub found-twice : (n j found : ℕ) {same : Bool} {at : ℕ} → found ≡ i → found < n → j < i → same ≡ same_key key i j → same ≡ true → at ≡ place found
      → Err (refusal Duplicate at) ≡ first_over n (fresh_key key place)
  found-twice n j found e h l s t p =
      ap (λ (x : ℕ). Err (refusal Duplicate x)) (p ∙ ap place e) ∙ sym (first-refused n i (fresh_key key place) (refusal Duplicate (place i)) (omega arith) so_far (stands-earlier key place i j l (sym s ∙ t)))

-- where the scan stopped before the end it had not come to the end
pub stopped-before : {P : Type 0} (found n : ℕ) → found ≡ n → found < n → P
stopped-before found n e h = absurd (omega arith)
