-- The laws of little-endian numbers, each over the width. The two round trips are num_at-put and put-num_at.
-- Assumes nothing.
use Prim.Native.Nat.{ℕ, zero, suc, ◌+◌, ◌*◌, ◌/◌, ◌%◌, ◌^◌, ◌≤◌, ◌<◌}
use mathlib.Core.Path.{◌≡◌, refl, sym, ap, ◌∙◌}
use mathlib.Core.List.{List, [], ◌∷◌, ◌++◌, append_assoc, append-nil}
use native.Mathlib.Nat.{add_assoc, mul_assoc, zero-add, suc-add, pow-suc, pow-succ', one-le-pow, div-one, div-div-eq-div-mul}
use native.Mathlib.Omega.{arith}
use lib.Arith.{mod-mul}
use lib.Dec.{lit<}
use lib.ListN.{length, get_or, take, drop, set, length-append, length-drop, take-append-drop}
use lib.Seq.{take-add, drop-drop, drop-cons, length-take-le, take_at, drop_at, get_or-drop, sets-eq}
use Rattle.numbers.specs.Numbers.{le, num_at, bytes_of, put, Bytes}

-- two runs of bytes: the second counts by 256 to the first's length
pub le-append : (xs ys : List ℕ) → le (xs ++ ys) ≡ le xs + 256 ^ length xs * le ys
unfolding le
le-append [] ys = omega arith
le-append (x ∷ xs) ys = simp (pow-succ', mul_assoc) (omega (arith, le-append xs ys))

-- a wide number from its low and its high part
pub num_at-add : (m n : ℕ) (s : List ℕ) (k : ℕ) → k + m ≤ length s → num_at (m + n) s k ≡ num_at m s k + 256 ^ m * num_at n s (k + m)
unfolding num_at
num_at-add m n s k h =
    let l : length (take m (drop k s)) ≡ m = length-take-le m (drop k s) (simp length-drop (omega arith)) in
    rw (take-add, le-append, l, drop-drop)

-- one byte
pub num_at_one : (s : List ℕ) (k : ℕ) → k < length s → num_at 1 s k ≡ get_or s k 0
unfolding num_at le
num_at_one s k h = rw (drop-cons s k 0) (omega arith)

pub length-bytes_of : (n v : ℕ) → length (bytes_of n v) ≡ n
unfolding bytes_of
length-bytes_of zero v = refl
length-bytes_of (suc n) v = ap suc (length-bytes_of n (v / 256))

-- the bytes of the low and of the high part
pub bytes_of-add : (m n v : ℕ) → bytes_of (m + n) v ≡ bytes_of m v ++ bytes_of n (v / 256 ^ m)
unfolding bytes_of
bytes_of-add zero n v = simp (zero-add, div-one)
bytes_of-add (suc m) n v = rw (suc-add, pow-succ', ← div-div-eq-div-mul, bytes_of-add m n (v / 256))

-- a number's bytes write it
pub le-bytes_of : (n v : ℕ) → v < 256 ^ n → le (bytes_of n v) ≡ v
unfolding bytes_of le
le-bytes_of zero v h = omega arith
le-bytes_of (suc n) v h =
    let h' : v < 256 * 256 ^ n = rw pow-succ' at h in
    rw (le-bytes_of n (v / 256) (omega arith)) (omega arith)

-- bytes are those of the number that they write
pub bytes_of-le : (bs : List ℕ) → Bytes bs → bytes_of (length bs) (le bs) ≡ bs
unfolding bytes_of le
bytes_of-le [] h = refl
bytes_of-le (b ∷ bs) h =
    let e₁ : (b + 256 * le bs) % 256 ≡ b = omega (arith, h 0) in
    let e₂ : (b + 256 * le bs) / 256 ≡ le bs = omega (arith, h 0) in
    rw (e₁, e₂, bytes_of-le bs (λ i. h (suc i)))

-- a write after a write: one write of both
pub put-put : (s : List ℕ) (k : ℕ) (xs ys : List ℕ) → k + length xs ≤ length s → put (put s k xs) (k + length xs) ys ≡ put s k (xs ++ ys)
unfolding put
put-put s k xs ys h =
    let t : length (take k s) ≡ k = length-take-le k s (omega arith) in
    let l : length (take k s ++ xs) ≡ k + length xs = simp (length-append, t) in
    rw (
      take_at (take k s ++ xs) _ (k + length xs) l,
      ← drop-drop (length ys) (k + length xs) ((take k s ++ xs) ++ drop (k + length xs) s),
      drop_at (take k s ++ xs) _ (k + length xs) l,
      drop-drop,
      append_assoc (take k s) xs ys,
      length-append xs ys,
      ← add_assoc,
    )

pub length-put : (s : List ℕ) (k : ℕ) (bs : List ℕ) → k + length bs ≤ length s → length (put s k bs) ≡ length s
unfolding put
length-put s k bs h =
    let t : length (take k s) ≡ k = length-take-le k s (omega arith) in
    simp (length-append, length-drop, t) (omega arith)

-- what was written is read
pub num_at-put : (n : ℕ) (s : List ℕ) (k v : ℕ) → k + n ≤ length s → v < 256 ^ n → num_at n (put s k (bytes_of n v)) k ≡ v
unfolding put num_at
num_at-put n s k v h hv =
    let t : length (take k s) ≡ k = length-take-le k s (omega arith) in
    rw (append_assoc, drop_at (take k s) _ k t, take_at (bytes_of n v) _ n (length-bytes_of n v), le-bytes_of n v)

-- a part of bytes is bytes
pub bytes_take : (n : ℕ) (s : List ℕ) → Bytes s → Bytes (take n s)
bytes_take zero s h i = lit< tt
bytes_take (suc n) [] h i = lit< tt
bytes_take (suc n) (b ∷ s) h zero = h 0
bytes_take (suc n) (b ∷ s) h (suc i) = bytes_take n s (λ k. h (suc k)) i

pub bytes_drop : (n : ℕ) (s : List ℕ) → Bytes s → Bytes (drop n s)
bytes_drop n s h i = rw get_or-drop (h (n + i))

-- what was read, put back, changes nothing
pub put-num_at : (n : ℕ) (s : List ℕ) (k : ℕ) → k + n ≤ length s → Bytes s → put s k (bytes_of n (num_at n s k)) ≡ s
unfolding put num_at
put-num_at n s k h bs =
    let xs : List ℕ = take n (drop k s) in
    let l : length xs ≡ n = length-take-le n (drop k s) (simp length-drop (omega arith)) in
    let e : bytes_of n (le xs) ≡ xs = rw l at (bytes_of-le xs (bytes_take n (drop k s) (bytes_drop k s bs))) in
    rw (e, l, ← drop-drop n k s, append_assoc, take-append-drop n (drop k s), take-append-drop k s)

-- the bytes above the width do not count
pub bytes_of_mod : (n v : ℕ) → bytes_of n (v % 256 ^ n) ≡ bytes_of n v
unfolding bytes_of
bytes_of_mod zero v = refl
bytes_of_mod (suc n) v =
    let e : v % 256 ^ suc n ≡ (v / 256 % 256 ^ n) * 256 + v % 256 = rw pow-suc (mod-mul v (one-le-pow n 256 (lit< tt)) (lit< tt)) in
    let e₁ : v % 256 ^ suc n % 256 ≡ v % 256 = omega arith in
    let e₂ : v % 256 ^ suc n / 256 ≡ v / 256 % 256 ^ n = omega arith in
    rw (e₁, e₂, bytes_of_mod n (v / 256))

-- what a reader of twice the width returns, from its two halves
pub read-halves : (n : ℕ) (s : List ℕ) (k : ℕ) {lo hi : ℕ} → k + n ≤ length s → lo ≡ num_at n s k → hi ≡ num_at n s (k + n)
    → lo + 256 ^ n * hi ≡ num_at (n + n) s k
read-halves n s k h p q = rw (p, q) (sym (num_at-add n n s k h))

-- what a writer of twice the width leaves, from its two halves
pub write-halves : (n : ℕ) (s : List ℕ) (k v : ℕ) {mid out : List ℕ} → k + n ≤ length s → mid ≡ put s k (bytes_of n (v % 256 ^ n))
    → out ≡ put mid (k + n) (bytes_of n (v / 256 ^ n)) → out ≡ put s k (bytes_of (n + n) v)
write-halves n s k v h p q =
    let l : length (bytes_of n v) ≡ n = length-bytes_of n v in
    let j : put (put s k (bytes_of n v)) (k + n) (bytes_of n (v / 256 ^ n)) ≡ put s k (bytes_of n v ++ bytes_of n (v / 256 ^ n)) =
    rw l at (put-put s k (bytes_of n v) (bytes_of n (v / 256 ^ n)) (omega arith)) in
    rw (q, p, bytes_of_mod, bytes_of-add) j

-- the same at each width, as code by halves says it: a number of two bytes by its bytes, wider ones by the numbers of half the width
pub two_by_bytes : (s : List ℕ) (k : ℕ) {r : ℕ} → k + 2 ≤ length s → r ≡ get_or s k 0 + get_or s (k + 1) 0 * 256 → r ≡ num_at 2 s k
two_by_bytes s k h e =
    let two : get_or s k 0 + 256 * get_or s (k + 1) 0 ≡ num_at 2 s k = read-halves 1 s k (omega arith) (sym (num_at_one s k (omega arith))) (sym (num_at_one s (k + 1) (omega arith))) in
    omega (arith, e, two)

pub four_by_halves : (s : List ℕ) (k : ℕ) {lo hi x y : ℕ} → k + 4 ≤ length s → x ≡ lo → lo ≡ num_at 2 s k → y ≡ hi → hi ≡ num_at 2 s (k + 2)
    → x + 65536 * y ≡ num_at 4 s k
four_by_halves s k h p q e f = read-halves 2 s k (omega arith) (p ∙ q) (e ∙ f)

pub eight_by_halves : (s : List ℕ) (k : ℕ) {lo hi x y : ℕ} → k + 8 ≤ length s → x ≡ lo → lo ≡ num_at 4 s k → y ≡ hi → hi ≡ num_at 4 s (k + 4)
    → x + 4294967296 * y ≡ num_at 8 s k
eight_by_halves s k h p q e f = read-halves 4 s k (omega arith) (p ∙ q) (e ∙ f)

pub put_four_by_halves : (s : List ℕ) (k v : ℕ) {mid out : List ℕ} → k + 4 ≤ length s → mid ≡ put s k (bytes_of 2 (v % 65536))
    → out ≡ put mid (k + 2) (bytes_of 2 (v / 65536)) → out ≡ put s k (bytes_of 4 v)
put_four_by_halves s k v h = write-halves 2 s k v (omega arith)

pub put_eight_by_halves : (s : List ℕ) (k v : ℕ) {mid out : List ℕ} → k + 8 ≤ length s → mid ≡ put s k (bytes_of 4 (v % 4294967296))
    → out ≡ put mid (k + 4) (bytes_of 4 (v / 4294967296)) → out ≡ put s k (bytes_of 8 v)
put_eight_by_halves s k v h = write-halves 4 s k v (omega arith)

-- nothing put, and one byte stored
pub put-none : (s : List ℕ) (k : ℕ) → put s k [] ≡ s
unfolding put
put-none s k =
    let e : k + 0 ≡ k = omega arith in
    rw (append-nil (take k s), e) (take-append-drop k s)

pub set-put : (s : List ℕ) (k v : ℕ) → k < length s → set s k v ≡ put s k (v ∷ [])
unfolding put
set-put s k v h = sets-eq (v ∷ []) s k (omega arith)

pub put_byte : (s : List ℕ) (k v : ℕ) → k < length s → v < 256 → set s k v ≡ put s k (bytes_of 1 v)
unfolding bytes_of
put_byte s k v h hv =
    let e : v % 256 ≡ v = omega arith in
    rw e (set-put s k v h)

-- a number that n bytes write is below 256 to the n
le-fits : (n : ℕ) (bs : List ℕ) → Bytes bs → le (take n bs) < 256 ^ n
unfolding le
le-fits zero bs h = lit< tt
le-fits (suc n) [] h = rw pow-succ' (omega (arith, le-fits n [] h))
le-fits (suc n) (b ∷ bs) h = rw pow-succ' (omega (arith, h 0, le-fits n bs (λ i. h (suc i))))

pub num-fits : (n : ℕ) (s : List ℕ) (k : ℕ) → Bytes s → num_at n s k < 256 ^ n
unfolding num_at
num-fits n s k h = le-fits n (drop k s) (bytes_drop k s h)

-- two lists of numbers below a bound, one behind the other, are below it; so bytes behind bytes are bytes
pub below-append : (b : ℕ) (xs ys : List ℕ) → ((i : ℕ) → get_or xs i 0 < b) → ((i : ℕ) → get_or ys i 0 < b) → (i : ℕ) → get_or (xs ++ ys) i 0 < b
below-append b [] ys p q i = q i
below-append b (x ∷ xs) ys p q zero = p 0
below-append b (x ∷ xs) ys p q (suc i) = below-append b xs ys (λ j. p (suc j)) q i
