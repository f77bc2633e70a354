-- What a three-way answer says of two lists, and of two items.
-- Assumes nothing.
use Prim.Native.Nat.{ℕ, ◌+◌, ◌<◌}
use mathlib.Core.Path.{◌≡◌, refl, sym, ap, ◌∙◌}
use mathlib.Core.Bool.{true, false}
use mathlib.Core.List.{List, [], ◌∷◌, ◌++◌}
use native.Mathlib.Numerals.{add-one}
use native.Mathlib.Omega.{arith}
use borrow.Author.Tests.{ltb-true, le-ltb, eq-eqb, ne_eqb}
use lib.Dec.{ltb, eqb}
use lib.ListN.{length, get_or, drop}
use lib.Seq.{drop-cons}
use Rattle.std.specs.declared.cmp.Ordering.{Ordering}
use Rattle.std.specs.Ordering.{is_le, is_eq, nat_cmp, ordering_then}
use Rattle.lists.specs.Lists.{eq_list, lex_leq}
use Rattle.lists.proofs.Tests.{by-test}
use Rattle.segment.specs.Keys.{key_of}
use Rattle.key.specs.declared.Kind.{Kind}
use Rattle.key.specs.declared.head.Head.{Head}
use Rattle.key.specs.Items.{item_digest, item_head, item_key}
use Rattle.key.specs.Heads.{head_key, lex}

-- the three-way answer and the two-way ones agree
pub leq-lex : (xs ys : List ℕ) → lex_leq xs ys ≡ is_le (lex xs ys)
unfolding lex_leq
leq-lex [] [] = refl
leq-lex [] (y ∷ ys) = refl
leq-lex (x ∷ xs) [] = refl
leq-lex (x ∷ xs) (y ∷ ys) = by-test (ltb x y) (λ t. simp t)
    (λ f. by-test (eqb x y) (λ t. simp (f, t) (leq-lex xs ys)) (λ g. simp (f, g)))

pub eq-lex : (xs ys : List ℕ) → eq_list xs ys ≡ is_eq (lex xs ys)
unfolding eq_list
eq-lex [] [] = refl
eq-lex [] (y ∷ ys) = refl
eq-lex (x ∷ xs) [] = refl
eq-lex (x ∷ xs) (y ∷ ys) = by-test (ltb x y)
    (λ t. let l = ltb-true x y t in let n : eqb x y ≡ false = ne_eqb x y (λ e. omega arith) in simp (t, n))
    (λ f. by-test (eqb x y) (λ t. simp (f, t) (eq-lex xs ys)) (λ g. simp (f, g)))

-- two lists are told number by number: what is left from k on decides
module _ (a b : List ℕ) (k : ℕ) (left : lex a b ≡ lex (drop k a) (drop k b)) (ha : k < length a) (hb : k < length b) where
  pub at-unlike : (get_or a k 0 ≡ get_or b k 0 → ⊥) → nat_cmp (get_or a k 0) (get_or b k 0) ≡ lex a b
  at-unlike n =
      let e : eqb (get_or a k 0) (get_or b k 0) ≡ false = ne_eqb _ _ n in
      rw (left, drop-cons a k 0, drop-cons b k 0) (by-test (ltb (get_or a k 0) (get_or b k 0)) (λ t. simp t) (λ f. simp (f, e)))

  pub at-equal : get_or a k 0 ≡ get_or b k 0 → lex a b ≡ lex (drop (k + 1) a) (drop (k + 1) b)
  at-equal e =
      let n : ltb (get_or b k 0) (get_or b k 0) ≡ false = le-ltb _ _ (omega arith) in
      let s : eqb (get_or b k 0) (get_or b k 0) ≡ true = eq-eqb _ _ refl in
      rw (left, drop-cons a k 0, drop-cons b k 0, add-one k, e) (simp (n, s))

-- what an answer says of two lists: whether the first comes no later, and whether they are equal
module _ (o : Ordering) (xs ys : List ℕ) (e : o ≡ lex xs ys) where
  pub told-leq : is_le o ≡ lex_leq xs ys
  told-leq = ap is_le e ∙ sym (leq-lex xs ys)

  pub told-same : is_eq o ≡ eq_list xs ys
  told-same = ap is_eq e ∙ sym (eq-lex xs ys)

-- ---- heads first, then digests

-- lists of one length stand in front of others: so a key's head decides before its digest, however many numbers it has
pub lex-front : (ps qs xs ys : List ℕ) → length ps ≡ length qs → lex (ps ++ xs) (qs ++ ys) ≡ ordering_then (lex ps qs) (lex xs ys)
lex-front [] [] xs ys e = refl
lex-front [] (q ∷ qs) xs ys e = absurd (omega arith)
lex-front (p ∷ ps) [] xs ys e = absurd (omega arith)
lex-front (p ∷ ps) (q ∷ qs) xs ys e = by-test (ltb p q) (λ t. simp t)
    (λ f. by-test (eqb p q) (λ t. simp (f, t) (lex-front ps qs xs ys (omega arith))) (λ g. simp (f, g)))

-- two items, by what their columns hold
pub items-told : (kind : Kind) (bytes list : List ℕ) (i j : ℕ) (a b : Head) (x y : List ℕ) {c : Ordering} → a ≡ item_head kind bytes list i → b ≡ item_head kind bytes list j
    → x ≡ item_digest kind bytes list i → y ≡ item_digest kind bytes list j → c ≡ lex (key_of (head_key a x)) (key_of (head_key b y))
    → c ≡ lex (item_key kind bytes list i) (item_key kind bytes list j)
unfolding item_key item_head
items-told kind bytes list i j a b x y p q f g e = e ∙ rw (p, q, f, g)

pub item-told : (kind : Kind) (bytes list : List ℕ) (k : ℕ) (a b : Head) (x y : List ℕ) {c : Ordering} → a ≡ item_head kind bytes list k
    → x ≡ item_digest kind bytes list k → c ≡ lex (key_of (head_key a x)) (key_of (head_key b y)) → c ≡ lex (item_key kind bytes list k) (key_of (head_key b y))
unfolding item_key item_head
item-told kind bytes list k a b x y p f e = e ∙ rw (p, f)
