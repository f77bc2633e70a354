-- Tests: one holds or not, two at once, what a test of numbers says, and a flag that a call returned.
--   tests       `simp tests` decides tests by what the code's tests say
-- Assumes nothing.
use Prim.Native.Nat.{ℕ, ◌≤◌, ◌<◌}
use mathlib.Core.Path.{◌≡◌, refl, sym, ◌∙◌}
use mathlib.Core.Bool.{Bool, true, false, not, ◌&&◌, ◌||◌, false≢true, true≢false}
use mathlib.Core.Logic.{◌↔◌, ◌⊎◌, inl, inr}
use borrow.Author.Tests.{
  lt-ltb,
  ltb-true,
  le-ltb,
  le-leb,
  leb-true,
  lt-leb,
  eq-eqb,
  eqb-true,
  ne_eqb,
  not-true as flag-false,
  not-false as flag_true,
}
use lib.Dec.{leb, ltb, eqb}

-- ---- a test, and two at once

pub by-test : {P : Type 0} (b : Bool) → (b ≡ true → P) → (b ≡ false → P) → P
by-test true f g = f refl
by-test false f g = g refl

pub and-iff : (a b : Bool) → (a && b) ≡ true ↔ (a ≡ true) × (b ≡ true)
and-iff true b = (λ e. (refl, e), λ e. e.1)
and-iff false b = (λ e. (e, cc), λ e. e.0)

-- of one or the other, the second where the first does not hold
pub or-iff : (a b : Bool) → (a || b) ≡ true ↔ (¬ (a ≡ true) → b ≡ true)
or-iff true b = (λ e n. absurd (n refl), λ f. refl)
or-iff false b = (λ e n. e, λ f. f false≢true)

pub or-either : (a b : Bool) → (a || b) ≡ true → (a ≡ true) ⊎ (b ≡ true)
or-either true b e = inl e
or-either false b e = inr e

pub ruleset tests = (lt-ltb, le-ltb, le-leb, lt-leb, eq-eqb, ne_eqb)

pub leb-iff : (a b : ℕ) → leb a b ≡ true ↔ a ≤ b
leb-iff a b = (leb-true a b, le-leb a b)

pub ltb_iff : (a b : ℕ) → ltb a b ≡ true ↔ a < b
ltb_iff a b = (ltb-true a b, lt-ltb a b)

pub eqb-iff : (a b : ℕ) → eqb a b ≡ true ↔ a ≡ b
eqb-iff a b = (eqb-true a b, eq-eqb a b)

pub if-not : (b : Bool) → (b ≡ true → ⊥) → b ≡ false
if-not true h = absurd (h refl)
if-not false h = refl

pub clash : {P : Type 0} (b : Bool) → b ≡ true → b ≡ false → P
clash b t f = absurd (true≢false (sym t ∙ f))

-- ---- the test of a flag that a call returned, and what the call ensures of it

pub was-true : {r b : Bool} → r ≡ b → not r ≡ false → b ≡ true
was-true p q = sym p ∙ flag_true _ q

pub was-false : {r b : Bool} → r ≡ b → not r ≡ true → b ≡ false
was-false p q = sym p ∙ flag-false _ q
