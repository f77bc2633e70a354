-- The laws of eight bytes at a step: the bytes of a word go in together, and each byte of the register goes through its own table.
--   together   bytes that go in one after the other go in together
--   more       a run that has come to i comes to i + n by n bytes at once
--   run_eight  eight bytes in front of a list go in at once
--   slices     of the four low bytes of a number each goes by itself
--   halves     of a register the four low bytes go by themselves, and so do the four high ones
--   pack       one more byte above those that are packed, by a shift that loses nothing
--   packed_eight   eight bytes as a sum, since their digits are apart
--   from_first a slice from its first byte on is the slice
-- Assumes nothing.
use mathlib.Core.Path.{◌≡◌, refl, sym, ap, ap₂, ◌∙◌, subst}
use mathlib.Core.List.{List, ◌++◌}
use Prim.Native.Nat.{ℕ, zero, suc, ◌+◌, ◌-◌, ◌*◌, ◌/◌, ◌%◌, ◌^◌, ◌≤◌, ◌<◌}
use native.Mathlib.Nat.{div-eq_of_lt, mod-lt, add-zero, lt_of_lt_of_le}
use native.Mathlib.Numerals.{add-one}
use native.Mathlib.Omega.{arith}
use lib.Pow.{pow_mono, pow_pos, shr-shr, shl_exact, shl_lt, field, mod-mod-pow, shr_mod}
use lib.Bits.{bit_xor, bit_or, xor_zero_r, xor_comm, xor_lt, xor_shifted, or_shifted_r}
use lib.Dec.{lit<}
use lib.ListN.{length, get_or, take, drop, length-append}
use lib.Seq.{take_all, drop-append-add}
use Rattle.crc64.specs.Crc.{steps, byte, run}
use Rattle.crc64.proofs.CrcLaws.{Reached, one_more, run-append, run_more, run_none}
use Rattle.crc64_laws.proofs.Xor.{xor_assoc}
use Rattle.crc64_laws.proofs.StepLaws.{byte-steps, cut, steps-none}
use Rattle.crc64_fast.specs.Word.{packed}

-- the register after the n bytes b 0, b 1, .., one after the other
unfoldable pub fed : ℕ → (ℕ → ℕ) → ℕ → ℕ
fed c b zero = c
fed c b (suc n) = byte (fed c b n) (b n)

pub together : (c : ℕ) (b : ℕ → ℕ) (n : ℕ) → fed c b n ≡ steps (8 * n) (bit_xor c (packed b n))
unfolding fed packed steps
together c b zero = sym (xor_zero_r c)
together c b (suc n) =
    let m = 8 * n in
    let d = b n in
    let p = packed b n in
    let e : 8 + 8 * n ≡ 8 * suc n = omega arith in
    ap (λ (x : ℕ). byte x d) (together c b n) ∙ byte-steps m (bit_xor c p) d
    ∙ ap (steps (8 + m)) (xor_assoc c p (d * 2 ^ m)) ∙ ap (λ (k : ℕ). steps k (bit_xor c (bit_xor p (d * 2 ^ m)))) e

-- a run over a list, n bytes at once from where it has come to
fed-more : {s : List ℕ} {c₀ c i : ℕ} (n : ℕ) → Reached c₀ s c i → i + n ≤ length s → Reached c₀ s (fed c (λ k. get_or s (i + k) 0) n) (i + n)
unfolding fed
fed-more zero r h = rw add-zero r
fed-more {s} {c₀} {c} {i} (suc n) r h =
    let e : i + n + 1 ≡ i + suc n = omega arith in
    subst (Reached c₀ s (fed c (λ k. get_or s (i + k) 0) (suc n))) e (one_more (fed-more n r (omega arith)) (omega arith))

pub more : {s : List ℕ} {c₀ c i : ℕ} (n : ℕ) → Reached c₀ s c i → i + n ≤ length s
    → Reached c₀ s (steps (8 * n) (bit_xor c (packed (λ k. get_or s (i + k) 0) n))) (i + n)
more {s} {c} {i} n r h = rw (together c (λ k. get_or s (i + k) 0) n) at (fed-more n r h)

-- of a list that is run over, n bytes first
run_fed : (s : List ℕ) (c n : ℕ) → n ≤ length s → run c s ≡ run (fed c (λ k. get_or s k 0) n) (drop n s)
unfolding fed
run_fed s c zero h = refl
run_fed s c (suc n) h = run_fed s c n (omega arith) ∙ run_more s (fed c (λ k. get_or s k 0) n) n (omega arith) ∙ rw add-one

-- eight bytes in front go in together
pub run_eight : (bytes after : List ℕ) (c : ℕ) → length bytes ≡ 8
    → run c (bytes ++ after) ≡ run (steps 64 (bit_xor c (packed (λ k. get_or bytes k 0) 8))) after
run_eight bytes after c e =
    run-append bytes after c
    ∙ ap (λ (x : ℕ). run x after) (run_fed bytes c 8 (omega arith) ∙ run_none bytes (fed c (λ k. get_or bytes k 0) 8) 8 (omega arith) ∙ together c (λ k. get_or bytes k 0) 8)

-- what is left after them ends in the same short tail
pub tail_eight : (bytes after : List ℕ) → length bytes ≡ 8
    → drop (length (bytes ++ after) - length (bytes ++ after) % 8) (bytes ++ after) ≡ drop (length after - length after % 8) after
tail_eight bytes after e =
    let n : length (bytes ++ after) - length (bytes ++ after) % 8 ≡ length bytes + (length after - length after % 8) =
    omega (arith, length-append bytes after) in
    rw n (drop-append-add bytes after (length after - length after % 8))

-- steps by the lowest byte and by the rest, where k digits are gone already
byte_at : (k n x : ℕ) → steps (n + 8) (x / 2 ^ k) ≡ bit_xor (steps (n + 8) (x / 2 ^ k % 256)) (steps n (x / 2 ^ (k + 8)))
byte_at k n x = cut 8 n (x / 2 ^ k) ∙ ap (λ (y : ℕ). bit_xor (steps (n + 8) (x / 2 ^ k % 256)) (steps n y)) (shr-shr x k 8)

-- a byte of a number is a byte of the digits below any place above it
byte-below : (j k x : ℕ) → x % 2 ^ (j + 8 + k) / 2 ^ k % 256 ≡ x / 2 ^ k % 256
byte-below j k x = ap (λ (y : ℕ). y % 256) (field x (j + 8) k) ∙ mod-mod-pow (x / 2 ^ k) j 8

pub slices : (n x : ℕ)
    → bit_xor (bit_xor (bit_xor (steps (n + 8 + 8 + 8 + 8) (x % 256)) (steps (n + 8 + 8 + 8) (x / 2 ^ 8 % 256)))
    (steps (n + 8 + 8) (x / 2 ^ 16 % 256))) (steps (n + 8) (x / 2 ^ 24 % 256)) ≡ steps (n + 8 + 8 + 8 + 8) (x % 2 ^ 32)
slices n x =
    let y = x % 2 ^ 32 in
    let none : y / 2 ^ 32 ≡ 0 = div-eq_of_lt (mod-lt x (pow_pos 32)) in
    rw (
      cut 8 (n + 8 + 8 + 8) y,
      byte_at 8 (n + 8 + 8) y,
      byte_at 16 (n + 8) y,
      byte_at 24 n y,
      none,
      steps-none,
      xor_zero_r,
      mod-mod-pow x 24 8,
      byte-below 16 8 x,
      byte-below 8 16 x,
      byte-below 0 24 x,
      xor_assoc,
    )
    (xor_assoc (steps (n + 8 + 8 + 8 + 8) (x % 256)) (steps (n + 8 + 8 + 8) (x / 2 ^ 8 % 256))
    (bit_xor (steps (n + 8 + 8) (x / 2 ^ 16 % 256)) (steps (n + 8) (x / 2 ^ 24 % 256))))

pub halves : (x : ℕ) → x < 2 ^ 64 → bit_xor (steps 64 (x % 2 ^ 32)) (steps 32 (x / 2 ^ 32 % 2 ^ 32)) ≡ steps 64 x
halves x h =
    ap (λ (y : ℕ). bit_xor (steps 64 (x % 2 ^ 32)) (steps 32 y)) (shr_mod 32 32 h) ∙ sym (cut 32 32 x)

packed_lt : (b : ℕ → ℕ) (n : ℕ) → ((k : ℕ) → b k < 256) → packed b n < 2 ^ (8 * n)
unfolding packed
packed_lt b zero bytes = lit< tt
packed_lt b (suc n) bytes =
    let e : 8 + 8 * n ≡ 8 * suc n = omega arith in
    subst (λ (m : ℕ). bit_xor (packed b n) (b n * 2 ^ (8 * n)) < 2 ^ m) e
    (xor_lt (8 + 8 * n) (packed b n) (b n * 2 ^ (8 * n))
    (lt_of_lt_of_le (packed_lt b n bytes) (pow_mono {i = 8 * n} {j = 8 + 8 * n} (omega arith))) (shl_lt 8 (8 * n) (bytes n)))

-- one byte more, put above those that are packed by a shift: the shift loses nothing, and the digits are apart
pub pack : (k : ℕ) (b : ℕ → ℕ) {p r : ℕ} → k < 8 → ((j : ℕ) → b j < 256) → p ≡ packed b k → r ≡ b k
    → bit_or p (r * 2 ^ (8 * k) % 2 ^ 64) ≡ packed b (k + 1)
unfolding packed
pack k b h bytes e f =
    let m = 8 * k in
    ap₂ bit_or e (ap (λ (x : ℕ). x * 2 ^ m % 2 ^ 64) f ∙ shl_exact 8 m 64 (bytes k) (omega arith))
    ∙ or_shifted_r (b k) m (packed b k) (packed_lt b k bytes) ∙ sym (xor_shifted (b k) m (packed b k) (packed_lt b k bytes))
    ∙ xor_comm (b k * 2 ^ m) (packed b k) ∙ rw add-one

-- one byte more stands above those that are packed
packed_more : (b : ℕ → ℕ) (n : ℕ) → ((k : ℕ) → b k < 256) → packed b (suc n) ≡ packed b n + b n * 2 ^ (8 * n)
unfolding packed
packed_more b n bytes = xor_comm (packed b n) (b n * 2 ^ (8 * n)) ∙ xor_shifted (b n) (8 * n) (packed b n) (packed_lt b n bytes) ∙ omega arith

packed_none : (b : ℕ → ℕ) → packed b 0 ≡ 0
unfolding packed
packed_none b = refl

-- eight bytes as the library puts them together
pub packed_eight : (b : ℕ → ℕ) → ((k : ℕ) → b k < 256)
    → packed b 8
    ≡ b 0 + b 1 * 256 ^ 1 + b 2 * 256 ^ 2 + b 3 * 256 ^ 3 + b 4 * 256 ^ 4 + b 5 * 256 ^ 5 + b 6 * 256 ^ 6 + b 7 * 256 ^ 7
packed_eight b bytes =
    omega (
      arith,
      packed_none b,
      packed_more b 0 bytes,
      packed_more b 1 bytes,
      packed_more b 2 bytes,
      packed_more b 3 bytes,
      packed_more b 4 bytes,
      packed_more b 5 bytes,
      packed_more b 6 bytes,
      packed_more b 7 bytes,
    )

pub from_first : (c : ℕ) (s : List ℕ) → run c (take (length s - 0) (drop 0 s)) ≡ run c s
from_first c s = ap (run c) (take_all (length s - 0) s (omega arith))
