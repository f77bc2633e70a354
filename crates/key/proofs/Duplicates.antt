-- 12 over any keys: its table accepts exactly when no two are the same, and otherwise refuses at the lowest place whose key stands earlier.
-- Assumes nothing.
use Prim.Native.Nat.{ℕ, ◌<◌}
use mathlib.Core.Path.{◌≡◌, sym}
use mathlib.Core.Bool.{true, false, Bool-discrete}
use mathlib.Core.Logic.Dec
use mathlib.Core.Logic.Iff
use mathlib.Core.Logic.{◌↔◌}
use mathlib.Core.List.{List}
use native.Mathlib.Omega.{arith}
use Rattle.std.specs.Prelude.{Err}
use Rattle.answer.specs.declared.Refusal.{Refusal}
use Rattle.answer.specs.declared.Rule.TheVariants.{Duplicate}
use Rattle.answer.specs.Answers.{refusal}
use Rattle.answer.specs.Rules.{first_over, some_below, accepted}
use Rattle.answer.proofs.Order.{never_both, must-not, first-accepted, first-refused, first-is-lowest, some-found, some_at}
use Rattle.answer.proofs.Places.{Placed, placed-rows}
use Rattle.segment.specs.Keys.{same_key, fresh_key, EarlierKey, FirstTwice, NoKeyTwice}
use Rattle.lists.proofs.Equal.{eq_list-iff}

-- the item i among keys: it stands earlier, or it is new
pub stands-earlier : (key : ℕ → List ℕ) (place : ℕ → ℕ) (i j : ℕ) → j < i → same_key key i j ≡ true → fresh_key key place i ≡ Err (refusal Duplicate (place i))
unfolding fresh_key
stands-earlier key place i j l e = rw (some-found i j (same_key key i) l e)

pub is-new : (key : ℕ → List ℕ) (place : ℕ → ℕ) (i : ℕ) → some_below i (same_key key i) ≡ false → fresh_key key place i ≡ accepted
unfolding fresh_key
is-new key place i e = rw e

-- it is refused at its own place
pub fresh-placed : {b : ℕ} (key : ℕ → List ℕ) (place : ℕ → ℕ) (k : ℕ) → place k < b → Placed b (fresh_key key place k)
unfolding fresh_key
fresh-placed key place k l = search placed-rows

module _ (key : ℕ → List ℕ) (place : ℕ → ℕ) where
  same-iff : (i j : ℕ) → same_key key i j ≡ true ↔ key i ≡ key j
  same-iff i j = eq_list-iff (key i) (key j)

  earlier-iff : (k : ℕ) → some_below k (same_key key k) ≡ true ↔ EarlierKey key k
  earlier-iff k = (
    λ e. let a = some_at k (same_key key k) e in record { at = a.0; before = a.1; same = (same-iff k a.0).0 a.2 },
    λ m. some-found k m.at (same_key key k) m.before ((same-iff k m.at).1 m.same),
  )

  earlier-decided : (k : ℕ) → Dec (EarlierKey key k)
  earlier-decided k = Dec.of_iff (earlier-iff k) (Bool-discrete (some_below k (same_key key k)) true)

  fresh-book : (k : ℕ) → fresh_key key place k ≡ accepted ↔ ¬ EarlierKey key k
  unfolding fresh_key
  fresh-book k = simp (must-not, earlier-iff) Iff.rfl

  fresh-broken : (k : ℕ) → EarlierKey key k → fresh_key key place k ≡ Err (refusal Duplicate (place k))
  fresh-broken k m = stands-earlier key place k m.at m.before ((same-iff k m.at).1 m.same)

  module _ (n : ℕ) where
    none-earlier : ((k : ℕ) → k < n → ¬ EarlierKey key k) → NoKeyTwice key n
    none-earlier f i j a b e =
        let not-before : ¬ (i < j) = λ l. f j b (record { at = i; before = l; same = sym e }) in
        let not_after : ¬ (j < i) = λ l. f i a (record { at = j; before = l; same = e }) in
        omega arith

    all-differ : NoKeyTwice key n → (k : ℕ) → k < n → ¬ EarlierKey key k
    all-differ d k l m = let same : k ≡ m.at = d k m.at l (omega arith) m.same in omega arith

    pub keys-book : first_over n (fresh_key key place) ≡ accepted ↔ NoKeyTwice key n
    keys-book = simp (first-accepted, fresh-book) (none-earlier, all-differ)

    pub twice-refused : (k : ℕ) → FirstTwice key n k → first_over n (fresh_key key place) ≡ Err (refusal Duplicate (place k))
    twice-refused k m =
        first-refused n k (fresh_key key place) (refusal Duplicate (place k)) m.within
        ((first-accepted k (fresh_key key place)).1 (λ j i. (fresh-book j).1 (m.lowest j i))) (fresh-broken k m.earlier)

    pub refused-twice : (r : Refusal) → first_over n (fresh_key key place) ≡ Err r → (k : ℕ) × (refusal Duplicate (place k) ≡ r) × FirstTwice key n k
    refused-twice r e =
        let l = (first-is-lowest n (fresh_key key place) r).0 e in
        let earlier = (Dec.not-not (earlier-decided l.at)).0 (λ f. never_both ((fresh-book l.at).1 f) l.here) in
        let here = fresh-broken l.at earlier in (
          l.at,
          cc,
          record { within = l.within; earlier = earlier; lowest = λ j i. (fresh-book j).0 (l.before j i) },
        )
