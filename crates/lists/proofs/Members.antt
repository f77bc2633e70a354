-- What holds of each member of a list, and of each of the first numbers: one and the same of a list that is counted.
--   members-iff      a proposition holds of each member of `f 0, f 1, ..` exactly when it holds of each `f i`
--   counted-member   each of them is a member
-- Assumes nothing.
use Prim.Native.Nat.{ℕ, ◌<◌}
use mathlib.Core.Logic.{◌↔◌}
use mathlib.Core.List.{List, [], ◌∷◌, map, Mem, Mem-prop, not-mem-nil, forall_mem-cons}
use Rattle.lists.specs.Lists.{Each, count_from}
use Rattle.lists.proofs.Counted.{each-iff}

module _ {A : Type 0} (P : A → Type 0) (prop : (x : A) → IsProp (P x)) where
  each-of-members : (xs : List A) → Each P xs ↔ ((x : A) → Mem x xs → P x)
  unfolding Each
  each-of-members [] = (λ e x m. absurd (not-mem-nil m), λ h. tt)
  each-of-members (x ∷ xs) =
      let rest = each-of-members xs in
      let cons = forall_mem-cons prop {a = x} {l = xs} in
      (λ e. cons.1 (e.0, rest.0 e.1), λ h. ((cons.0 h).0, rest.1 (cons.0 h).1))

  pub members-iff : (f : ℕ → A) (n : ℕ) → ((x : A) → Mem x (map f (count_from 0 n)) → P x) ↔ ((i : ℕ) → i < n → P (f i))
  members-iff f n =
      let m = each-of-members (map f (count_from 0 n)) in
      let c = each-iff f P n in
      (λ h. c.0 (m.1 h), λ h. m.0 (c.1 h))

pub counted-member : {A : Type 0} (f : ℕ → A) (n i : ℕ) → i < n → Mem (f i) (map f (count_from 0 n))
counted-member {A} f n = (members-iff (λ (x : A). Mem x (map f (count_from 0 n))) (λ x. Mem-prop) f n).0 (λ x m. m)
