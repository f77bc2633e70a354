-- Which number of a key is which: those before its digest, and then the digest's bytes.
-- Assumes nothing.
use Prim.Native.Nat.{ℕ, suc, ◌-◌, ◌≤◌, ◌<◌}
use mathlib.Core.Path.{◌≡◌, sym, ap, ◌∙◌}
use mathlib.Core.List.{List, ◌++◌}
use native.Mathlib.Omega.{arith}
use lib.ListN.{length, get_or, get_or-eq_default}
use Rattle.key.specs.declared.head.Head.{Head}
use Rattle.key.specs.Heads.{head_numbers}

module _ (h : Head) (digest : List ℕ) (i : ℕ) where
  pub number-first : i < 1 → h.hash_id ≡ get_or (head_numbers h ++ digest) i 0
  number-first l = let z : i ≡ 0 = omega arith in rw z

  pub number-byte : 1 ≤ i → get_or digest (i - 1) 0 ≡ get_or (head_numbers h ++ digest) i 0
  number-byte l = let z : i ≡ suc (i - 1) = omega arith in sym (ap (λ (n : ℕ). get_or (head_numbers h ++ digest) n 0) z)

  pub number-ended : 1 ≤ i → length digest ≤ i - 1 → 0 ≡ get_or (head_numbers h ++ digest) i 0
  number-ended l e = sym (get_or-eq_default digest 0 {n = i - 1} e) ∙ number-byte l
