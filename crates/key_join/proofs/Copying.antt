-- What a turn of the copy shows.
-- Assumes nothing.
use Prim.Native.Nat.{ℕ, ◌+◌, ◌≤◌, ◌<◌}
use mathlib.Core.Path.{◌≡◌, sym, ◌∙◌}
use mathlib.Core.List.{List}
use native.Mathlib.Numerals.{add-one}
use native.Mathlib.Omega.{arith}
use lib.ListN.{length, get_or, set, take}
use lib.Seq.{take-suc, take-suc-set, take_all}

pub copy_more : (from to to₀ : List ℕ) (i : ℕ) → take i to ≡ take i from → i < length to → length to ≡ length to₀ → length to₀ ≤ length from
    → take (i + 1) (set to i (get_or from i 0)) ≡ take (i + 1) from
copy_more from to to₀ i e h s r =
    let k : i < length from = omega arith in
    rw (add-one i, take-suc-set to i (get_or from i 0) h, take-suc from i 0, e)

pub copied : (from to to₀ : List ℕ) (i : ℕ) → take i to ≡ take i from → length to ≤ i → i ≤ length to₀ → length to ≡ length to₀ → to ≡ take (length to₀) from
copied from to to₀ i e h k s =
    let n : length to₀ ≡ i = omega arith in
    sym (take_all i to h) ∙ e ∙ rw n

pub ruleset copying = (copy_more, copied)
