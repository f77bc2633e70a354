-- What merge sort shows of a list in two halves, each of which has been sorted.
-- Assumes nothing.
use Prim.Native.Nat.{ℕ, ◌≤◌, ◌<◌}
use mathlib.Core.Path.{◌≡◌, refl, ap, ◌∙◌}
use mathlib.Core.Bool.{Bool}
use mathlib.Core.List.{List, [], ◌∷◌, ◌++◌}
use native.Mathlib.Omega.{arith}
use lib.ListN.{length, take, drop, length-append, take-append-drop}
use lib.Seq.{take_at, drop_at, length-take-le}
use Rattle.lists.specs.Lists.{insert, sort_by, Each, merge_by}
use Rattle.lists.proofs.Arranged.{each-sort, sort-ascends}
use Rattle.lists.proofs.Each.{each_take, each-drop, each_append}
use Rattle.lists.proofs.Sorting.{Total, merge-sorts, sort-length}
use Rattle.key_join.specs.Joins.{Joins}

pub short-sorted : (leq : ℕ → ℕ → Bool) (a : List ℕ) → length a < 2 → a ≡ sort_by leq a
unfolding sort_by insert
short-sorted leq [] h = refl
short-sorted leq (x ∷ []) h = refl
short-sorted leq (x ∷ y ∷ ys) h = absurd (omega arith)

-- the first m numbers of a, sorted, and the others, sorted
module _ (leq : ℕ → ℕ → Bool) (a : List ℕ) (m : ℕ) (left right p q : List ℕ)
    (l : left ≡ take m a) (r : right ≡ drop m a) (e : p ≡ sort_by leq left) (f : q ≡ sort_by leq right) where
  pub halves-each : (P : ℕ → Type 0) → Each P a → Each P (p ++ q)
  halves-each P h =
      rw (e, f, l, r)
      (each_append P (sort_by leq (take m a)) (sort_by leq (drop m a))
      (each-sort leq P (take m a) (each_take P m a h))
      (each-sort leq P (drop m a) (each-drop P m a h)))

  module _ (h : m < length a) where
    first-long : length p ≡ m
    first-long = ap length (e ∙ ap (sort_by leq) l) ∙ sort-length leq (take m a) ∙ length-take-le m a (omega arith)

    first-half : take m (p ++ q) ≡ p
    first-half = take_at p q m first-long

    second-long : 0 < length q
    second-long = omega (arith, ap length (f ∙ ap (sort_by leq) r), sort-length leq (drop m a), ap length (take-append-drop m a), length-append (take m a) (drop m a), length-take-le m a (omega arith))

    pub halves-join : Total leq → 1 ≤ m → Joins leq m (p ++ q)
    halves-join o s = record {
      some = s;
      others = omega (arith, length-append p q, first-long, second-long);
      ascends = rw (first-half, e) (sort-ascends leq o left);
    }

    -- the two sorted halves, joined, are the whole, sorted
    pub halves-sort : Total leq → {w : List ℕ} → w ≡ merge_by leq (take m (p ++ q)) (drop m (p ++ q)) → w ≡ sort_by leq a
    halves-sort o t =
        t
        ∙ rw (first-half, drop_at p q m first-long, e, f, l, r) (merge-sorts leq o (take m a) (drop m a))
        ∙ ap (sort_by leq) (take-append-drop m a)
