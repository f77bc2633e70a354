-- Rules in order: the first refusal is the verdict.
--   Verdict      what check answers: that nothing is refused, or a refusal
--   must         a rule: its test, and the refusal where the test fails
--   ◌then◌       the first refusal wins; where there is none, what comes after
--   first_over   the verdicts of 0, 1, .. below n, in order
--   some_below   a test holds somewhere below n
--   after        the same as ◌then◌ where a refusal is put into other words
-- Assumes nothing.
use Rattle.std.specs.Prelude.{ℕ, zero, suc, Bool, true, false, ◌||◌, Result, Ok, Err}
use Rattle.answer.specs.declared.Refusal.{Refusal}

abbrev pub Verdict : Type 0
Verdict = Result (Unit {0}) Refusal

abbrev pub accepted : Verdict
accepted = Ok _

abbrev pub must : Bool → Refusal → Verdict
must true r = accepted
must false r = Err r

infixr 40 ◌then◌
abbrev pub ◌then◌ : {A : Type 0} → Verdict → Result A Refusal → Result A Refusal
Ok _ then v = v
Err r then v = Err r

unfoldable pub first_over : ℕ → (ℕ → Verdict) → Verdict
first_over zero f = accepted
first_over (suc n) f = first_over n f then f n

unfoldable pub some_below : ℕ → (ℕ → Bool) → Bool
some_below zero p = false
some_below (suc n) p = some_below n p || p n

abbrev pub after : {A : Type 0} → (Refusal → A) → Verdict → A → A
after refuse (Ok _) a = a
after refuse (Err r) a = refuse r
