-- The number that the library makes of bytes, and the bytes that it makes of a number, are those of Numbers, over the width.
-- Assumes nothing.
use Prim.Native.Nat.{ℕ, zero, suc, ◌+◌, ◌*◌, ◌-◌, ◌/◌, ◌%◌, ◌^◌, ◌≤◌, ◌<◌}
use mathlib.Core.Path.{◌≡◌, refl, sym, ap, ◌∙◌}
use mathlib.Core.List.{List, [], ◌∷◌, append_assoc}
use native.Mathlib.Nat.{div-one, div-div-eq-div-mul, pow-suc, mul_comm}
use native.Mathlib.Omega.{arith}
use lib.ListN.{length, get_or, drop, take, length-drop}
use lib.Seq.{drop-drop, take-suc, take_all, length-take-le}
use borrow.Rule.Slice.PartMut.{put_mid}
use Rattle.std.specs.Int.{byte_at, byte_worth, bytes_low_first, sum_through}
use Rattle.numbers.specs.Numbers.{le, num_at, bytes_of, put}
use Rattle.numbers.proofs.NumberLaws.{le-append, length-bytes_of}

-- ---- from bytes

-- what a byte is worth at its place
worth-pow : (i b : ℕ) → byte_worth i b ≡ 256 ^ i * b
worth-pow zero b = omega arith
worth-pow (suc i) b = mul_comm b (256 ^ suc i)

-- the sum of what bytes are worth is the number that they write
sum-le : (n : ℕ) (bs : List ℕ) → n < length bs → sum_through (λ i. byte_worth i (get_or bs i 0)) n ≡ le (take (suc n) bs)
unfolding le
sum-le zero bs h = rw (take-suc bs 0 0 h) (omega arith)
sum-le (suc n) bs h =
    let l : length (take (suc n) bs) ≡ suc n = length-take-le (suc n) bs (omega arith) in
    let e : le (get_or bs (suc n) 0 ∷ []) ≡ get_or bs (suc n) 0 = omega arith in
    rw (take-suc bs (suc n) 0 h, le-append, l, e, sum-le n bs (omega arith), worth-pow) refl

pub read_bytes : (n : ℕ) (s : List ℕ) (k r : ℕ) → k + suc n ≤ length s
    → r ≡ sum_through (λ i. byte_worth i (get_or (take (suc n) (drop k s)) i 0)) n → r ≡ num_at (suc n) s k
unfolding num_at
read_bytes n s k r h e =
    let bs : List ℕ = take (suc n) (drop k s) in
    let l : length bs ≡ suc n = length-take-le (suc n) (drop k s) (simp length-drop (omega arith)) in
    e ∙ sum-le n bs (omega arith) ∙ ap le (take_all (suc n) bs (omega arith))

-- ---- to bytes

byte_at-pow : (i v : ℕ) → byte_at i v ≡ v / 256 ^ i % 256
byte_at-pow zero v = rw div-one refl
byte_at-pow (suc i) v = refl

-- bytes from the i-th on are those of what is left above the first i
low-bytes : (i n v : ℕ) → bytes_low_first i n v ≡ bytes_of n (v / 256 ^ i)
unfolding bytes_of
low-bytes i zero v = refl
low-bytes i (suc n) v = rw (byte_at-pow, low-bytes (suc i) n v, div-div-eq-div-mul, pow-suc) refl

pub put_bytes : (n : ℕ) (s : List ℕ) (k v : ℕ) {bs : List ℕ} → bs ≡ bytes_low_first 0 n v → put_mid k (k + n - k) s bs ≡ put s k (bytes_of n v)
unfolding put
put_bytes n s k v e =
    let l : k + n - k ≡ n = omega arith in
    let d : drop n (drop k s) ≡ drop (k + n) s = drop-drop n k s in
    rw (e, low-bytes 0 n v, div-one, l, length-bytes_of, d) (sym (append_assoc (take k s) (bytes_of n v) (drop (k + n) s)))
