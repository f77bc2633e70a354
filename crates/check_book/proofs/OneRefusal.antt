-- What the proofs over the tables of rules go by: a table that gives one refusal only, and what a table decides.
--   Only        a verdict that accepts, or refuses with this refusal
--   broken      the rules of such a table are not all kept: it gives the refusal
--   only-refused, by_first   what such a table, alone or before another, says of a refusal
--   decided     a table that accepts exactly when a statement holds decides it
-- Assumes nothing.
use mathlib.Core.Path.{◌≡◌, refl, ap}
use mathlib.Core.Bool.{Bool, true, false, cond}
use mathlib.Core.Logic.{◌↔◌, ⊎_elim}
use Rattle.std.specs.Prelude.{Ok, Err}
use Rattle.answer.specs.declared.Refusal.{Refusal}
use Rattle.answer.specs.Rules.{must, ◌then◌, Verdict, accepted}
use Rattle.answer.proofs.Order.{never_both, then-refused}

-- ---- one refusal only

pub data Only (q : Refusal) : Verdict → Type 0 where
  accepts : Only q accepted
  refuses : Only q (Err q)

pub only-must : (b : Bool) (q : Refusal) → Only q (must b q)
only-must true q = accepts
only-must false q = refuses

-- a rule that is kept refuses with nothing
pub only_kept : (q r : Refusal) → Only q (must true r)
only_kept q r = accepts

pub only_then : {q : Refusal} {a b : Verdict} → Only q a → Only q b → Only q (a then b)
only_then accepts o = o
only_then refuses o = refuses

pub only-cond : (b : Bool) {q : Refusal} {v w : Verdict} → Only q v → Only q w → Only q (cond b v w)
only-cond true o p = o
only-cond false o p = p

pub ruleset only-rows = (only-must, only_kept, only_then, only-cond)

pub broken : {M : Type 0} {q : Refusal} {v : Verdict} → Only q v → v ≡ accepted ↔ M → ¬ M → v ≡ Err q
broken accepts e n = absurd (n (e.0 refl))
broken refuses e n = refl

-- and no other, and only then
pub only-refused : {M : Type 0} {q : Refusal} {v : Verdict} → Only q v → v ≡ accepted ↔ M → (r : Refusal) → v ≡ Err r ↔ (q ≡ r) × ¬ M
only-refused accepts e r = (λ f. absurd (never_both refl f), λ p. absurd (p.1 (e.0 refl)))
only-refused refuses e r = (λ f. (cc, λ m. never_both (e.1 m) refl), λ p. ap Err p.0)

-- of two tables in order, where they refuse: the first's rules are broken, or they are kept and the second refuses
pub by_first : {M C : Type 0} {q r : Refusal} {v w : Verdict} → Only q v → v ≡ accepted ↔ M → (v then w) ≡ Err r → (q ≡ r → ¬ M → C)
    → (M → w ≡ Err r → C) → C
by_first {r = r} {v = v} {w = w} o e f bad kept =
    ⊎_elim
    (λ (g : v ≡ Err r). let p = (only-refused o e r).0 g in bad p.0 p.1)
    (λ (g : (v ≡ accepted) × (w ≡ Err r)). kept (e.0 g.0) g.1)
    ((then-refused v w r).0 f)

-- ---- a statement that a verdict decides

pub decided : {M : Type 0} {v : Verdict} → v ≡ accepted ↔ M → Dec M
decided {v = Ok _} e = yes (e.0 refl)
decided {v = Err q} e = no (λ m. never_both (e.1 m) refl)
