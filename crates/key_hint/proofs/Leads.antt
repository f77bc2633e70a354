-- The lesser hint has the lesser key; and what a hint is, digit by digit.
-- Assumes nothing.
use Prim.Native.Nat.{ℕ, zero, suc, ◌+◌, ◌*◌, ◌^◌, ◌≤◌, ◌<◌}
use mathlib.Core.Path.{◌≡◌, refl, sym, ◌∙◌}
use mathlib.Core.Bool.{true, false}
use mathlib.Core.List.{List, [], ◌∷◌}
use native.Mathlib.Nat.{pow-suc, one-le-pow, suc-mul, zero-mul, mul-le-mul_right}
use native.Mathlib.Omega.{arith}
use borrow.Author.Tests.{lt-ltb, le-ltb, ltb-true, ltb-false, eq-eqb, ne_eqb}
use lib.Dec.{ltb}
use lib.ListN.{get_or, drop}
use Rattle.lists.proofs.Tests.{by-test}
use Rattle.lists.specs.Lists.{lex_leq}
use Rattle.key.specs.declared.Kind.{Kind}
use Rattle.segment.specs.Keys.{key_of}
use Rattle.key.specs.declared.head.Head.{Head}
use Rattle.key.specs.Heads.{head_key}
use Rattle.key.specs.Items.{item_head, item_digest, item_key}
use Rattle.key.specs.ItemOrder.{item_leq}
use Rattle.key_hint.specs.Leading.{leading, Digit, item_hint, Hinted}

-- ---- one digit more

module _ (n x : ℕ) (xs : List ℕ) where
  pub lead-small : x < 255 → leading (suc n) (x ∷ xs) ≡ x * 256 ^ n + leading n xs
  unfolding leading
  lead-small h = rw (lt-ltb x 255 h)

  pub lead-large : 255 ≤ x → leading (suc n) (x ∷ xs) ≡ 255 * 256 ^ n
  unfolding leading
  lead-large h = rw (le-ltb x 255 h)

-- x digits of one place are fewer than y of them by one of that place at least
place : (n x y : ℕ) → x < y → x * 256 ^ n + 256 ^ n ≤ y * 256 ^ n
place n x y h = rw (← suc-mul x (256 ^ n)) (mul-le-mul_right (256 ^ n) h)

-- n digits are less than one of the next place
lead-below : (n : ℕ) (xs : List ℕ) → leading n xs < 256 ^ n
unfolding leading
lead-below zero xs = omega arith
lead-below (suc n) [] = one-le-pow (suc n) 256 (omega arith)
lead-below (suc n) (x ∷ xs) = by-test (ltb x 255)
    (λ t. let h = ltb-true x 255 t in omega (arith, lead-small n x xs h, lead-below n xs, place n x 255 h, pow-suc 256 n))
    (λ f. let h = ltb-false x 255 f in omega (arith, lead-large n x xs h, one-le-pow n 256 (omega arith), pow-suc 256 n))

-- ---- the lesser has the lesser key

-- a first number that is lower has no higher hint
lower-first : (n x y : ℕ) (xs ys : List ℕ) → x < y → leading (suc n) (x ∷ xs) ≤ leading (suc n) (y ∷ ys)
lower-first n x y xs ys l = by-test (ltb y 255)
    (λ t. let h = ltb-true y 255 t in omega (arith, lead-small n x xs (omega arith), lead-small n y ys h, lead-below n xs, place n x y l))
    (λ f. let h = ltb-false y 255 f in by-test (ltb x 255)
    (λ u. let k = ltb-true x 255 u in omega (arith, lead-small n x xs k, lead-large n y ys h, lead-below n xs, place n x 255 k))
    (λ g. let k = ltb-false x 255 g in omega (arith, lead-large n x xs k, lead-large n y ys h)))

same_first : (n x : ℕ) (xs ys : List ℕ) → leading (suc n) (x ∷ xs) < leading (suc n) (x ∷ ys) → leading n xs < leading n ys
same_first n x xs ys h = by-test (ltb x 255)
    (λ t. let k = ltb-true x 255 t in omega (arith, lead-small n x xs k, lead-small n x ys k))
    (λ f. let k = ltb-false x 255 f in absurd (omega (arith, lead-large n x xs k, lead-large n x ys k)))

pub lead-decides : (n : ℕ) (xs ys : List ℕ) → leading n xs < leading n ys → (lex_leq xs ys ≡ true) × (lex_leq ys xs ≡ false)
unfolding leading lex_leq
lead-decides zero xs ys h = absurd (omega arith)
lead-decides (suc n) [] [] h = absurd (omega arith)
lead-decides (suc n) (x ∷ xs) [] h = absurd (omega arith)
lead-decides (suc n) [] (y ∷ ys) h = (refl, refl)
lead-decides (suc n) (x ∷ xs) (y ∷ ys) h = by-test (ltb x y)
    (λ t. let l = ltb-true x y t in let m : x ≤ y = omega arith in let d = ne_eqb y x (λ e. omega arith) in (simp t, simp (le-ltb y x m, d)))
    (λ f. by-test (ltb y x)
    (λ t. absurd (omega (arith, lower-first n y x ys xs (ltb-true y x t))))
    (λ g. let k = ltb-false x y f in let l = ltb-false y x g in let e : x ≡ y = omega arith in
    let r = lead-decides n xs ys (same_first n x xs ys (rw (← e) at h)) in
    let d = eq-eqb x y e in let b = eq-eqb y x (sym e) in (simp (f, d) r.0, simp (g, b) r.1)))

-- ---- digit by digit, where a list that has ended has 0

lead-none : (n : ℕ) → leading n [] ≡ 0
unfolding leading
lead-none zero = refl
lead-none (suc n) = refl

lead-goes : (n : ℕ) (xs : List ℕ) → get_or xs 0 0 < 255 → leading (suc n) xs ≡ get_or xs 0 0 * 256 ^ n + leading n (drop 1 xs)
lead-goes n [] h = omega (arith, lead-none (suc n), lead-none n, zero-mul (256 ^ n))
lead-goes n (x ∷ xs) h = lead-small n x xs h

lead-stops : (n : ℕ) (xs : List ℕ) → 255 ≤ get_or xs 0 0 → leading (suc n) xs ≡ 255 * 256 ^ n
lead-stops n [] h = absurd (omega arith)
lead-stops n (x ∷ xs) h = lead-large n x xs h

lead-last : (xs : List ℕ) {r : ℕ} → Digit xs 0 r → r ≡ leading 1 xs
unfolding leading
lead-last xs d = by-test (ltb (get_or xs 0 0) 255)
    (λ t. let k = ltb-true (get_or xs 0 0) 255 t in omega (arith, lead-goes 0 xs k, d.goes k))
    (λ f. let k = ltb-false (get_or xs 0 0) 255 f in omega (arith, lead-stops 0 xs k, d.stops k))

-- one digit, and then the others
digit-stops : (n : ℕ) (xs : List ℕ) {r : ℕ} → Digit xs 0 r → r ≡ 255 → leading (suc n) xs ≡ 255 * 256 ^ n
digit-stops n xs d e = by-test (ltb (get_or xs 0 0) 255)
    (λ t. let h = ltb-true (get_or xs 0 0) 255 t in absurd (omega (arith, d.goes h)))
    (λ f. lead-stops n xs (ltb-false (get_or xs 0 0) 255 f))

digit-goes : (n : ℕ) (xs : List ℕ) {r : ℕ} → Digit xs 0 r → (r ≡ 255 → ⊥) → leading (suc n) xs ≡ r * 256 ^ n + leading n (drop 1 xs)
digit-goes n xs {r} d e = by-test (ltb (get_or xs 0 0) 255)
    (λ t. let h = ltb-true (get_or xs 0 0) 255 t in rw (d.goes h) (lead-goes n xs h))
    (λ f. absurd (e (d.stops (ltb-false (get_or xs 0 0) 255 f))))

next-digit : (xs : List ℕ) (k : ℕ) {r : ℕ} → Digit xs (suc k) r → Digit (drop 1 xs) k r
next-digit [] k d = record { goes = d.goes; stops = d.stops; most = d.most }
next-digit (x ∷ xs) k d = record { goes = d.goes; stops = d.stops; most = d.most }

-- ---- the four digits of a key

module _ (xs : List ℕ) {w : ℕ} (first : Digit xs 0 w) where
  pub first_stops : w ≡ 255 → 4278190080 ≡ leading 4 xs
  first_stops e = sym (digit-stops 3 xs first e)

  module _ (h : w ≡ 255 → ⊥) {x : ℕ} (second : Digit xs 1 x) where
    from_second : leading 4 xs ≡ w * 16777216 + leading 3 (drop 1 xs)
    from_second = digit-goes 3 xs first h

    pub second-stops : x ≡ 255 → w * 16777216 + 16711680 ≡ leading 4 xs
    second-stops e = omega (arith, from_second, digit-stops 2 (drop 1 xs) (next-digit xs 0 second) e)

    module _ (k : x ≡ 255 → ⊥) {y : ℕ} (third : Digit xs 2 y) where
      rest : List ℕ
      rest = drop 1 (drop 1 xs)

      from-third : leading 4 xs ≡ w * 16777216 + x * 65536 + leading 2 rest
      unfolding rest
      from-third = omega (arith, from_second, digit-goes 2 (drop 1 xs) (next-digit xs 0 second) k)

      its : Digit rest 0 y
      unfolding rest
      its = next-digit (drop 1 xs) 0 (next-digit xs 1 third)

      pub third-stops : y ≡ 255 → w * 16777216 + x * 65536 + 65280 ≡ leading 4 xs
      third-stops e = omega (arith, from-third, digit-stops 1 rest its e)

      pub fourth-ends : (y ≡ 255 → ⊥) → {z : ℕ} → Digit xs 3 z → w * 16777216 + x * 65536 + y * 256 + z ≡ leading 4 xs
      unfolding rest
      fourth-ends l {z} fourth =
          let last : Digit (drop 1 rest) 0 z = next-digit rest 0 (next-digit (drop 1 xs) 1 (next-digit xs 2 fourth)) in
          omega (arith, from-third, digit-goes 1 rest its l, lead-last (drop 1 rest) last)

-- ---- an item's hint

pub item-hint : (kind : Kind) (bytes list : List ℕ) (k : ℕ) (a : Head) (x : List ℕ) {r : ℕ} → a ≡ item_head kind bytes list k → x ≡ item_digest kind bytes list k
    → r ≡ leading 4 (key_of (head_key a x)) → r ≡ item_hint kind bytes list k
unfolding item_hint item_key item_head
item-hint kind bytes list k a x p q e = e ∙ rw (p, q)

-- ---- two items by their hints

module _ (kind : Kind) (bytes list hints : List ℕ) (i j : ℕ) (a : Hinted kind bytes list hints i) (b : Hinted kind bytes list hints j) where
  pub lower-hint : get_or hints i 0 < get_or hints j 0 → true ≡ item_leq kind bytes list i j
  unfolding item_hint item_leq
  lower-hint h = sym (lead-decides 4 (item_key kind bytes list i) (item_key kind bytes list j) (rw (a.told, b.told) at h)).0

  pub higher-hint : get_or hints j 0 < get_or hints i 0 → false ≡ item_leq kind bytes list i j
  unfolding item_hint item_leq
  higher-hint h = sym (lead-decides 4 (item_key kind bytes list j) (item_key kind bytes list i) (rw (a.told, b.told) at h)).1
