-- Laws of `bit_xor` that the library leaves out: it is associative, and its digits are those of its operands.
--   of-bit      what holds of 0 and of 1 holds of each digit
--   xor-split   a number is its high part and its k low digits
-- Assumes nothing.
use mathlib.Core.Path.{◌≡◌, refl, sym, ap, ap₂, ◌∙◌}
use Prim.Native.Nat.{ℕ, zero, suc, ◌+◌, ◌*◌, ◌/◌, ◌%◌, ◌^◌, ◌<◌}
use native.Mathlib.Nat.{mod-lt}
use native.Mathlib.Omega.{arith}
use lib.Arith.{bin_ind}
use lib.Pow.{split, pow_pos}
use lib.Bits.{bit_xor, differ, xor_step, xor_shr, xor_mod, xor_comm, xor_shifted}

pub of-bit : (P : ℕ → Type 0) → P 0 → P 1 → (n : ℕ) → P (n % 2)
of-bit P p0 p1 n = go (n % 2) (mod-lt n (omega arith))
  where
    go : (m : ℕ) → m < 2 → P m
    go zero h = p0
    go (suc zero) h = p1
    go (suc (suc m)) h = absurd (omega arith)

pub xor-half : (a b : ℕ) → bit_xor a b / 2 ≡ bit_xor (a / 2) (b / 2)
xor-half a b = xor_shr a b 1

pub xor-odd : (a b : ℕ) → bit_xor a b % 2 ≡ bit_xor (a % 2) (b % 2)
xor-odd a b = xor_mod a b 1

low-assoc : (a b c : ℕ) → differ (bit_xor (a % 2) (b % 2)) (c % 2) ≡ differ (a % 2) (bit_xor (b % 2) (c % 2))
low-assoc a b c =
    of-bit (λ x. differ (bit_xor x (b % 2)) (c % 2) ≡ differ x (bit_xor (b % 2) (c % 2)))
    (of-bit (λ y. differ y (c % 2) ≡ differ 0 (bit_xor y (c % 2))) refl (of-bit (λ z. differ 1 z ≡ bit_xor 1 z) refl refl c) b)
    (of-bit (λ y. differ (bit_xor 1 y) (c % 2) ≡ differ 1 (bit_xor y (c % 2)))
    refl
    (of-bit (λ z. differ 0 z ≡ differ 1 (bit_xor 1 z)) refl refl c) b) a

pub xor_assoc : (a b c : ℕ) → bit_xor (bit_xor a b) c ≡ bit_xor a (bit_xor b c)
xor_assoc a =
    bin_ind (λ (n : ℕ). (b c : ℕ) → bit_xor (bit_xor n b) c ≡ bit_xor n (bit_xor b c)) (λ b c. refl)
    (λ n ih b c.
    xor_step (bit_xor n b) c
    ∙ ap₂ (λ (x y : ℕ). x * 2 + y)
    (ap (λ (x : ℕ). bit_xor x (c / 2)) (xor-half n b) ∙ ih (b / 2) (c / 2) ∙ ap (bit_xor (n / 2)) (sym (xor-half b c)))
    (ap (λ (x : ℕ). differ x (c % 2)) (xor-odd n b) ∙ low-assoc n b c ∙ ap (differ (n % 2)) (sym (xor-odd b c)))
    ∙ sym (xor_step n (bit_xor b c)))
    a

pub xor-swap : (a b c d : ℕ) → bit_xor (bit_xor a b) (bit_xor c d) ≡ bit_xor (bit_xor a c) (bit_xor b d)
xor-swap a b c d =
    xor_assoc a b (bit_xor c d)
    ∙ ap (bit_xor a) (sym (xor_assoc b c d) ∙ ap (λ (x : ℕ). bit_xor x d) (xor_comm b c) ∙ xor_assoc c b d)
    ∙ sym (xor_assoc a c (bit_xor b d))

pub xor-split : (n k : ℕ) → bit_xor (n / 2 ^ k * 2 ^ k) (n % 2 ^ k) ≡ n
xor-split n k = xor_shifted (n / 2 ^ k) k (n % 2 ^ k) (mod-lt n (pow_pos k)) ∙ split n k
