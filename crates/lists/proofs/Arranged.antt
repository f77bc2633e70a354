-- A sorted list is an ascending arrangement of the same elements; and where no two of them come no later than each other, there is
-- just one. So sorting an ascending list changes nothing, and the order in which elements stood before is forgotten.
-- Assumes nothing.
use mathlib.Core.Path.{◌≡◌, refl, sym, ap, ◌∙◌}
use mathlib.Core.Bool.{Bool, true, false, cond}
use mathlib.Core.Logic.{◌↔◌, ∥∥₁_elim}
use mathlib.Core.List.Permᴰ
use mathlib.Core.List.{List, [], ◌∷◌, Permᴰ, Mem, Nodup, is_set, perm_ext_iff_of_Nodup}
use Rattle.lists.proofs.Tests.{by-test}
use Rattle.lists.specs.Lists.{insert, sort_by, Each, Ascending}
use Rattle.lists.proofs.Each.{each-permuted}
use Rattle.lists.proofs.Sorting.{Total}

-- of the elements with P, two that come no later than each other are one
abbrev pub Anti : {A : Type 0} → (A → A → Bool) → (A → Type 0) → Type 0
Anti {A} leq P = (a b : A) → P a → P b → leq a b ≡ true → leq b a ≡ true → a ≡ b

module _ {A : Type 0} (leq : A → A → Bool) where
  -- ---- the same elements

  permute-step : (b : Bool) (x y : A) (ys : List A) → Permᴰ (insert leq x ys) (x ∷ ys) → Permᴰ (cond b (x ∷ y ∷ ys) (y ∷ insert leq x ys)) (x ∷ y ∷ ys)
  permute-step true x y ys p = Permᴰ.refl (x ∷ y ∷ ys)
  permute-step false x y ys p = Permᴰ.trans (Permᴰ.cons refl p) (Permᴰ.swap refl refl)

  insert-permutes : (x : A) (ys : List A) → Permᴰ (insert leq x ys) (x ∷ ys)
  unfolding insert
  insert-permutes x [] = Permᴰ.refl (x ∷ [])
  insert-permutes x (y ∷ ys) = permute-step (leq x y) x y ys (insert-permutes x ys)

  pub sort-permutes : (xs : List A) → Permᴰ (sort_by leq xs) xs
  unfolding sort_by
  sort-permutes [] = Permᴰ.nil
  sort-permutes (x ∷ xs) = Permᴰ.trans (insert-permutes x (sort_by leq xs)) (Permᴰ.cons refl (sort-permutes xs))

  pub each-sort : (P : A → Type 0) (xs : List A) → Each P xs → Each P (sort_by leq xs)
  each-sort P xs e = each-permuted P (Permᴰ.symm (sort-permutes xs)) e

  -- ---- ascending

  pub sort-keeps : (xs : List A) → Ascending leq xs → sort_by leq xs ≡ xs
  unfolding sort_by insert Ascending
  sort-keeps [] h = refl
  sort-keeps (x ∷ []) h = refl
  sort-keeps (x ∷ y ∷ ys) h = let k = sort-keeps (y ∷ ys) h.1 in ap (insert leq x) k ∙ simp h.0

  module _ (o : Total leq) where
    ascend-step : (x y z : A) (zs : List A) → Ascending leq (y ∷ z ∷ zs) → Ascending leq (insert leq x (z ∷ zs)) → Ascending leq (insert leq x (y ∷ z ∷ zs))
    unfolding insert Ascending
    ascend-step x y z zs h k = by-test (leq x y) (λ t. simp t (refl, h))
        (λ f. by-test (leq x z) (λ u. simp (f, u) (o.total x y f, simp u at k)) (λ u. simp (f, u) (h.0, simp u at k)))

    insert-ascends : (x : A) (ys : List A) → Ascending leq ys → Ascending leq (insert leq x ys)
    unfolding insert Ascending
    insert-ascends x [] h = tt
    insert-ascends x (y ∷ []) h = by-test (leq x y) (λ t. simp t (refl, tt)) (λ f. simp f (o.total x y f, tt))
    insert-ascends x (y ∷ z ∷ zs) h = ascend-step x y z zs h (insert-ascends x (z ∷ zs) h.1)

    pub sort-ascends : (xs : List A) → Ascending leq (sort_by leq xs)
    unfolding sort_by Ascending
    sort-ascends [] = tt
    sort-ascends (x ∷ xs) = insert-ascends x (sort_by leq xs) (sort-ascends xs)

    -- ---- the only one

    ordered_step : (x y z : A) (zs : List A) → leq x y ≡ true → leq y x ≡ false → insert leq x (insert leq y zs) ≡ insert leq y (insert leq x zs)
        → insert leq x (insert leq y (z ∷ zs)) ≡ insert leq y (insert leq x (z ∷ zs))
    unfolding insert
    ordered_step x y z zs xy yx k = by-test (leq y z)
        (λ yz. simp (yz, xy, yx, o.trans x y z xy yz))
        (λ yz. by-test (leq x z) (λ xz. simp (xz, yz, yx)) (λ xz. simp (xz, yz) (ap (λ (t : List A). z ∷ t) k)))

    ordered : (x y : A) → leq x y ≡ true → leq y x ≡ false → (zs : List A) → insert leq x (insert leq y zs) ≡ insert leq y (insert leq x zs)
    unfolding insert
    ordered x y xy yx [] = simp (xy, yx)
    ordered x y xy yx (z ∷ zs) = ordered_step x y z zs xy yx (ordered x y xy yx zs)

    module _ (P : A → Type 0) (anti : Anti leq P) where
      insert-swaps : (x y : A) (zs : List A) → P x → P y → insert leq x (insert leq y zs) ≡ insert leq y (insert leq x zs)
      insert-swaps x y zs p q = by-test (leq x y)
          (λ xy. by-test (leq y x) (λ yx. rw (anti x y p q xy yx)) (λ yx. ordered x y xy yx zs))
          (λ xy. sym (ordered y x (o.total x y xy) xy zs))

      -- the same elements in any order sort to the same list
      pub sorts-same : {xs ys : List A} → Permᴰ xs ys → Each P xs → sort_by leq xs ≡ sort_by leq ys
      unfolding sort_by Each
      sorts-same Permᴰ.nil e = refl
      sorts-same (Permᴰ.cons h p) e = let q = sorts-same p e.1 in cc
      sorts-same (Permᴰ.swap {a = a} {b = b} {l = l} h k) e = insert-swaps a b (sort_by leq l) e.0 e.1.0 ∙ cc (h, k)
      sorts-same (Permᴰ.trans p q) e = sorts-same p e ∙ sorts-same q (each-permuted P p e)

      -- the sorted order is the only ascending arrangement
      pub only-ascending : {xs ys : List A} → Permᴰ xs ys → Each P xs → Ascending leq xs → Ascending leq ys → xs ≡ ys
      only-ascending {xs} {ys} p e h k = sym (sort-keeps xs h) ∙ sorts-same p e ∙ sort-keeps ys k

      -- both for two lists with the same members, where none stands twice
      module _ (set : IsSet A) {xs ys : List A} (d : Nodup xs) (f : Nodup ys) (same : (a : A) → Mem a xs ↔ Mem a ys) (e : Each P xs) where
        pub set-sorts-same : sort_by leq xs ≡ sort_by leq ys
        set-sorts-same = ∥∥₁_elim ((perm_ext_iff_of_Nodup d f).1 same) (is_set set (sort_by leq xs) (sort_by leq ys)) (λ p. sorts-same p e)

        pub set-only-ascending : Ascending leq xs → Ascending leq ys → xs ≡ ys
        set-only-ascending h k = sym (sort-keeps xs h) ∙ set-sorts-same ∙ sort-keeps ys k
