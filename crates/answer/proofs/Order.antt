-- The laws of rules in order: the first refusal wins; a table accepts exactly when every row holds; over a run of records
-- the refusal is the lowest's.
--   rows        `simp rows` turns `table ≡ Accepted` into what the table's rows say
-- Assumes nothing.
use Prim.Native.Nat.{ℕ, zero, suc, ◌+◌, ◌<◌}
use mathlib.Core.Path.{◌≡◌, refl}
use mathlib.Core.Bool.{Bool, true, false, not, ◌||◌, false≢true}
use mathlib.Core.Logic.{◌↔◌, ◌⊎◌, inl, inr, ⊎_elim}
use native.Mathlib.Nat.{not-suc-le-zero, eq-or-lt_of_le, le_of_suc-le-suc}
use native.Mathlib.Numerals.{add-one}
use native.Mathlib.Omega.{arith}
use Rattle.std.specs.Prelude.{Err, Ok}
use Rattle.lists.proofs.Tests.{or-either, leb-iff, ltb_iff, eqb-iff}
use Rattle.answer.specs.declared.Refusal.{Refusal}
use Rattle.answer.specs.Rules.{must, ◌then◌, first_over, some_below, Verdict, accepted}

-- ---- a row, and two verdicts in order

pub never_both : {v : Verdict} {q : Refusal} → v ≡ accepted → v ≡ Err q → ⊥
never_both e f = let z : ◌≡◌ {A = ℕ} 0 1 = cc in omega arith

pub must-accepted : (b : Bool) (r : Refusal) → must b r ≡ accepted ↔ b ≡ true
must-accepted true r = (λ e. refl, λ e. refl)
must-accepted false r = (λ e. cc, λ e. cc)

pub must-not : (b : Bool) (r : Refusal) → must (not b) r ≡ accepted ↔ ¬ (b ≡ true)
must-not true r = (λ e. absurd (never_both e refl), λ n. absurd (n refl))
must-not false r = (λ e. false≢true, λ n. refl)

pub then-accepted : (a b : Verdict) → (a then b) ≡ accepted ↔ (a ≡ accepted) × (b ≡ accepted)
then-accepted (Ok _) b = (λ e. (refl, e), λ e. e.1)
then-accepted (Err r) b = (λ e. (e, cc), λ e. e.0)

pub then-assoc : (a b c : Verdict) → ((a then b) then c) ≡ (a then (b then c))
then-assoc (Ok _) b c = refl
then-assoc (Err x) b c = refl

pub ruleset rows = (then-accepted, must-accepted, leb-iff, ltb_iff, eqb-iff)

-- the first refusal wins: the second verdict speaks only where the first accepts
pub then-refused : (a b : Verdict) (r : Refusal) → (a then b) ≡ Err r ↔ (a ≡ Err r) ⊎ ((a ≡ accepted) × (b ≡ Err r))
then-refused (Ok _) b r = (λ e. inr (refl, e), ⊎_elim (λ e. cc) (λ e. e.1))
then-refused (Err q) b r = (λ e. inl e, ⊎_elim (λ e. e) (λ e. cc))

-- ---- the first refusal over a run

pub first-none : (f : ℕ → Verdict) → first_over 0 f ≡ accepted
unfolding first_over
first-none f = refl

pub first_more : (k : ℕ) (f : ℕ → Verdict) → first_over k f ≡ accepted → f k ≡ accepted → first_over (k + 1) f ≡ accepted
unfolding first_over
first_more k f p q = rw (add-one, p) q

pub first-refused : (n k : ℕ) (f : ℕ → Verdict) (r : Refusal) → k < n → first_over k f ≡ accepted → f k ≡ Err r → first_over n f ≡ Err r
unfolding first_over
first-refused zero k f r h p q = absurd (not-suc-le-zero h)
first-refused (suc n) k f r h p q =
    ⊎_elim
    (λ (e : k ≡ n). let p' : first_over n f ≡ accepted = rw e at p in let q' : f n ≡ Err r = rw e at q in rw (p', q'))
    (λ (l : k < n). rw (first-refused n k f r l p q))
    (eq-or-lt_of_le (le_of_suc-le-suc h))

first-all : (n : ℕ) (f : ℕ → Verdict) → first_over n f ≡ accepted → (k : ℕ) → k < n → f k ≡ accepted
unfolding first_over
first-all zero f e k h = absurd (not-suc-le-zero h)
first-all (suc n) f e k h =
    let b = (then-accepted (first_over n f) (f n)).0 e in
    ⊎_elim (λ (q : k ≡ n). rw q b.1) (λ (l : k < n). first-all n f b.0 k l) (eq-or-lt_of_le (le_of_suc-le-suc h))

all_first : (n : ℕ) (f : ℕ → Verdict) → ((k : ℕ) → k < n → f k ≡ accepted) → first_over n f ≡ accepted
unfolding first_over
all_first zero f h = refl
all_first (suc n) f h = rw (all_first n f (λ k l. h k (omega arith))) (h n (omega arith))

-- a run is accepted exactly when each of it is
pub first-accepted : (n : ℕ) (f : ℕ → Verdict) → first_over n f ≡ accepted ↔ ((k : ℕ) → k < n → f k ≡ accepted)
first-accepted n f = (first-all n f, all_first n f)

-- f refuses with r at the lowest place below n at which it refuses
pub record Lowest (n : ℕ) (f : ℕ → Verdict) (r : Refusal) : Type 0 where
  pub at : ℕ
  pub within : at < n
  pub here : f at ≡ Err r
  pub before : (k : ℕ) → k < at → f k ≡ accepted

first-lowest : (n : ℕ) (f : ℕ → Verdict) (r : Refusal) → first_over n f ≡ Err r → Lowest n f r
unfolding first_over
first-lowest zero f r e = absurd (never_both refl e)
first-lowest (suc n) f r e =
    ⊎_elim
    (λ (q : first_over n f ≡ Err r). let l = first-lowest n f r q in record { at = l.at; within = omega arith; here = l.here; before = l.before })
    (λ (q : (first_over n f ≡ accepted) × (f n ≡ Err r)). record { at = n; within = omega arith; here = q.1; before = first-all n f q.0 })
    ((then-refused (first_over n f) (f n) r).0 e)

-- the refusal over a run is the lowest's
pub first-is-lowest : (n : ℕ) (f : ℕ → Verdict) (r : Refusal) → first_over n f ≡ Err r ↔ Lowest n f r
first-is-lowest n f r = (first-lowest n f r, λ l. first-refused n l.at f r l.within (all_first l.at f l.before) l.here)

-- so a run is accepted at each place, or there is a lowest at which it is not
pub by-run : {C : Type 0} (n : ℕ) (f : ℕ → Verdict) → (((k : ℕ) → k < n → f k ≡ accepted) → C) → ((r : Refusal) → Lowest n f r → C) → C
by-run {C} n f all some = go (first_over n f) refl
  where
    go : (v : Verdict) → first_over n f ≡ v → C
    go (Ok _) e = all (first-all n f e)
    go (Err r) e = some r (first-lowest n f r e)

-- ---- a test below a bound

pub none_yet : (p : ℕ → Bool) → some_below 0 p ≡ false
unfolding some_below
none_yet p = refl

pub some_more : (k : ℕ) (p : ℕ → Bool) → some_below k p ≡ false → p k ≡ false → some_below (k + 1) p ≡ false
unfolding some_below
some_more k p e q = rw (add-one, e) q

pub or_right : (a : Bool) {b : Bool} → b ≡ true → (a || b) ≡ true
or_right true e = refl
or_right false e = e

pub some-found : (n k : ℕ) (p : ℕ → Bool) → k < n → p k ≡ true → some_below n p ≡ true
unfolding some_below
some-found zero k p h q = absurd (not-suc-le-zero h)
some-found (suc n) k p h q =
    ⊎_elim
    (λ (e : k ≡ n). or_right (some_below n p) (rw e at q))
    (λ (l : k < n). rw (some-found n k p l q))
    (eq-or-lt_of_le (le_of_suc-le-suc h))

pub some_at : (n : ℕ) (p : ℕ → Bool) → some_below n p ≡ true → (at : ℕ) × (at < n) × (p at ≡ true)
unfolding some_below
some_at zero p e = absurd (false≢true e)
some_at (suc n) p e =
    ⊎_elim
    (λ (q : some_below n p ≡ true). let a = some_at n p q in (a.0, omega arith, a.2))
    (λ (q : p n ≡ true). (n, omega arith, q))
    (or-either (some_below n p) (p n) e)

pub some-none : (n : ℕ) (p : ℕ → Bool) → ((k : ℕ) → k < n → p k ≡ false) → some_below n p ≡ false
unfolding some_below
some-none zero p h = refl
some-none (suc n) p h = rw (some-none n p (λ k l. h k (omega arith))) (h n (omega arith))
