-- Keys that climb: each comes before the next, so each before all later ones, and none stands twice.
-- Assumes nothing.
use Prim.Native.Nat.{ℕ, zero, suc, ◌+◌, ◌-◌, ◌≤◌, ◌<◌}
use mathlib.Core.Path.{◌≡◌, refl, sym, ap, subst, ◌∙◌}
use mathlib.Core.Bool.{Bool, true, false, not, ◌&&◌, true≢false}
use mathlib.Core.Logic.{⊎_elim}
use mathlib.Core.List.{List}
use native.Mathlib.Nat.{eq-or-lt_of_le, le_of_suc-le-suc}
use native.Mathlib.Omega.{arith}
use borrow.Author.Tests.{not-true}
use Rattle.lists.proofs.Tests.{by-test, and-iff}
use Rattle.lists.specs.Lists.{lex_leq, sort_by, count_from, Ascending}
use Rattle.segment.specs.Keys.{NoKeyTwice}
use Rattle.key.specs.declared.Kind.{Kind}
use Rattle.key.specs.Items.{item_key}
use Rattle.key.specs.ItemOrder.{item_leq}
use Rattle.key_hint.specs.Leading.{item_hint}
use Rattle.key_hint.proofs.Leads.{lead-decides}
use Rattle.lists.proofs.Lex.{lex-refl}
use Rattle.key.proofs.ItemOrder.{item-order}
use Rattle.lists.proofs.Sorting.{Total}
use Rattle.lists.proofs.Arranged.{sort-keeps}
use Rattle.key_ascending.specs.Climbs.{climbs}

-- ---- one more, and a fall

module _ (leq : ℕ → ℕ → Bool) where
  pub none-climb : (n : ℕ) → n < 1 → climbs leq n ≡ true
  unfolding climbs
  none-climb n h = let e : n ≡ 0 = omega arith in rw e

  next-climb : (i : ℕ) → 1 ≤ i → climbs leq (i + 1) ≡ (climbs leq i && not (leq i (i - 1)))
  unfolding climbs
  next-climb zero h = absurd (omega arith)
  next-climb (suc i) h = let e : suc i + 1 ≡ suc (suc i) = omega arith in let f : suc i - 1 ≡ i = omega arith in rw (e, f)

  -- one fall, and the whole does not climb
  pub falls : (n i : ℕ) → 1 ≤ i → i < n → leq i (i - 1) ≡ true → climbs leq n ≡ false
  unfolding climbs
  falls zero i h l e = absurd (omega arith)
  falls (suc zero) i h l e = absurd (omega arith)
  falls (suc (suc n)) i h l e =
      ⊎_elim
      (λ (q : i ≡ suc n). let f : i - 1 ≡ n = omega arith in let g : leq (suc n) n ≡ true = subst (λ (x : ℕ). leq x n ≡ true) q (subst (λ (x : ℕ). leq i x ≡ true) f e) in last-falls (climbs leq (suc n)) (leq (suc n) n) g)
      (λ (q : i < suc n). let r = falls (suc n) i h q e in rw r)
      (eq-or-lt_of_le (le_of_suc-le-suc l))
    where
      last-falls : (b c : Bool) → c ≡ true → (b && not c) ≡ false
      last-falls true c g = rw g
      last-falls false c g = refl

  -- what climbs up to a place climbs up to each before it
  prefix-climbs : (i n : ℕ) → climbs leq i ≡ true → n ≤ i → climbs leq n ≡ true
  unfolding climbs
  prefix-climbs zero n c h = let e : n ≡ 0 = omega arith in rw e
  prefix-climbs (suc zero) zero c h = refl
  prefix-climbs (suc zero) (suc zero) c h = refl
  prefix-climbs (suc zero) (suc (suc n)) c h = absurd (omega arith)
  prefix-climbs (suc (suc i)) n c h =
      ⊎_elim
      (λ (q : n ≡ suc (suc i)). subst (λ (x : ℕ). climbs leq x ≡ true) (sym q) c)
      (λ (q : n < suc (suc i)). prefix-climbs (suc i) n ((and-iff (climbs leq (suc i)) (not (leq (suc i) i))).0 c).0 (le_of_suc-le-suc q))
      (eq-or-lt_of_le h)

  -- ---- what climbs

  module _ (o : Total leq) where
    last-climbs : (m : ℕ) → climbs leq (suc (suc m)) ≡ true → leq (suc m) m ≡ false
    unfolding climbs
    last-climbs m c = not-true (leq (suc m) m) ((and-iff (climbs leq (suc m)) (not (leq (suc m) m))).0 c).1

    later : (i j : ℕ) → climbs leq (suc i) ≡ true → j < i → leq i j ≡ false
    later zero j c h = absurd (omega arith)
    later (suc m) j c h =
        let f = last-climbs m c in
        ⊎_elim
        (λ (q : j ≡ m). subst (λ (x : ℕ). leq (suc m) x ≡ false) (sym q) f)
        (λ (q : j < m).
        let up = o.total m j (later m j (prefix-climbs (suc (suc m)) (suc m) c (omega arith)) q) in
        by-test (leq (suc m) j) (λ t. absurd (true≢false (sym (o.trans (suc m) j m t up) ∙ f))) (λ t. t))
        (eq-or-lt_of_le (le_of_suc-le-suc h))

    pub apart : (n i j : ℕ) → climbs leq n ≡ true → i < n → j < i → leq i j ≡ false
    apart n i j c h l = later i j (prefix-climbs n (suc i) c h) l

    ascends : (n : ℕ) → climbs leq n ≡ true → (k m : ℕ) → k + m ≤ n → Ascending leq (count_from k m)
    unfolding Ascending count_from
    ascends n c k zero h = tt
    ascends n c k (suc zero) h = tt
    ascends n c k (suc (suc m)) h =
        (o.total (suc k) k (apart n (suc k) k c (omega arith) (omega arith)), ascends n c (suc k) (suc m) (omega arith))

    -- what climbs is sorted as it stands
    pub stays-sorted : (n : ℕ) → climbs leq n ≡ true → count_from 0 n ≡ sort_by leq (count_from 0 n)
    stays-sorted n c = sym (sort-keeps leq (count_from 0 n) (ascends n c 0 n (omega arith)))

-- ---- the pass

-- i of the items have been looked at, and there is one at least; the last one's hint is known
pub record Climbing (kind : Kind) (bytes list : List ℕ) (i before : ℕ) : Type 0 where
  pub one : 1 ≤ i
  pub so_far : climbs (item_leq kind bytes list) i ≡ true
  pub told : before ≡ item_hint kind bytes list (i - 1)

module _ (kind : Kind) (bytes list : List ℕ) where
  pub climbing-start : {before : ℕ} → before ≡ item_hint kind bytes list 0 → Climbing kind bytes list 1 before
  unfolding climbs
  climbing-start e = record { one = omega arith; so_far = refl; told = e }

  module _ {i before hint : ℕ} (c : Climbing kind bytes list i before) (e : hint ≡ item_hint kind bytes list i) where
    pub climbs-by-key : item_leq kind bytes list i (i - 1) ≡ false → Climbing kind bytes list (i + 1) hint
    climbs-by-key f =
        let k : i ≡ i + 1 - 1 = omega arith in
        record {
          one = omega arith;
          so_far = next-climb (item_leq kind bytes list) i c.one ∙ simp (c.so_far, f);
          told = e ∙ ap (item_hint kind bytes list) k;
        }

    -- the lesser hint has the lesser key
    pub climbs-by-hint : before < hint → Climbing kind bytes list (i + 1) hint
    unfolding item_hint item_leq
    climbs-by-hint h = climbs-by-key (lead-decides 4 (item_key kind bytes list (i - 1)) (item_key kind bytes list i) (rw (c.told, e) at h)).1

  pub climbed : (n i before : ℕ) → Climbing kind bytes list i before → n ≤ i → climbs (item_leq kind bytes list) n ≡ true
  climbed n i before c h = prefix-climbs (item_leq kind bytes list) i n c.so_far h

-- ---- items whose keys climb

module _ (kind : Kind) (bytes list : List ℕ) (n : ℕ) (c : climbs (item_leq kind bytes list) n ≡ true) where
  abbrev key : ℕ → List ℕ
  key = item_key kind bytes list

  never-same : (i j : ℕ) → i < n → j < i → key i ≡ key j → ⊥
  unfolding item_leq
  never-same i j h l e =
      true≢false (sym (ap (λ (k : List ℕ). lex_leq (key i) k) (sym e) ∙ lex-refl (key i)) ∙ apart (item_leq kind bytes list) (item-order kind bytes list) n i j c h l)

  pub none-twice : NoKeyTwice (item_key kind bytes list) n
  none-twice i j a b e =
      let not_after : ¬ (j < i) = λ l. never-same i j a l e in
      let not-before : ¬ (i < j) = λ l. never-same j i b l (sym e) in
      omega arith
