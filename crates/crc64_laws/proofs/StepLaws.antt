-- The laws of the register's step: it is linear, and it takes back a shift to the left.
--   steps-xor     steps of a sum are the sum of the steps
--   steps-add     steps after steps
--   steps-shift   n steps take back a shift by n to the left
--   byte-steps    a byte that goes in after m steps could have gone in before them, m digits higher
--   steps-none    nothing stays nothing
--   cut           the k low digits go through all the steps by themselves, and the rest has k fewer to go
-- Assumes nothing.
use mathlib.Core.Path.{◌≡◌, refl, sym, ap, ap₂, ◌∙◌}
use Prim.Native.Nat.{ℕ, zero, suc, ◌+◌, ◌*◌, ◌/◌, ◌%◌, ◌^◌}
use native.Mathlib.Nat.{zero-add, suc-add, mul_assoc, mul_comm, mul-one, mul-div_cancel, mul-mod_left, pow-suc}
use native.Mathlib.Omega.{arith}
use lib.Bits.{bit_xor, xor_zero_r, xor_comm}
use Rattle.crc64.specs.Crc.{poly, step, steps, byte}
use Rattle.crc64_laws.proofs.Xor.{of-bit, xor-half, xor-odd, xor-swap, xor-split}

times-poly : (a b : ℕ) → bit_xor (a % 2) (b % 2) * poly ≡ bit_xor (a % 2 * poly) (b % 2 * poly)
times-poly a b =
    of-bit (λ x. bit_xor x (b % 2) * poly ≡ bit_xor (x * poly) (b % 2 * poly))
    (of-bit (λ y. bit_xor 0 y * poly ≡ bit_xor (0 * poly) (y * poly)) refl refl b)
    (of-bit (λ y. bit_xor 1 y * poly ≡ bit_xor (1 * poly) (y * poly)) refl refl b) a

pub step-xor : (a b : ℕ) → step (bit_xor a b) ≡ bit_xor (step a) (step b)
unfolding step
step-xor a b =
    ap₂ (λ (x y : ℕ). bit_xor x (y * poly)) (xor-half a b) (xor-odd a b)
    ∙ ap (bit_xor (bit_xor (a / 2) (b / 2))) (times-poly a b)
    ∙ xor-swap (a / 2) (b / 2) (a % 2 * poly) (b % 2 * poly)

pub step-double : (a : ℕ) → step (a * 2) ≡ a
unfolding step
step-double a =
    ap₂ (λ (x y : ℕ). bit_xor x (y * poly)) (mul-div_cancel a (omega arith)) (mul-mod_left a 2) ∙ xor_zero_r a

pub steps-xor : (n a b : ℕ) → steps n (bit_xor a b) ≡ bit_xor (steps n a) (steps n b)
unfolding steps
steps-xor zero a b = refl
steps-xor (suc n) a b = ap step (steps-xor n a b) ∙ step-xor (steps n a) (steps n b)

pub steps-add : (m n a : ℕ) → steps (m + n) a ≡ steps m (steps n a)
unfolding steps
steps-add zero n a = ap (λ (x : ℕ). steps x a) (zero-add n)
steps-add (suc m) n a = ap (λ (x : ℕ). steps x a) (suc-add m n) ∙ ap step (steps-add m n a)

pub steps-shift : (n a : ℕ) → steps n (a * 2 ^ n) ≡ a
unfolding steps
steps-shift zero a = mul-one a
steps-shift (suc n) a =
    ap (λ (x : ℕ). step (steps n x)) (ap (λ (x : ℕ). a * x) (pow-suc 2 n ∙ mul_comm (2 ^ n) 2) ∙ sym (mul_assoc a 2 (2 ^ n)))
    ∙ ap step (steps-shift n (a * 2)) ∙ step-double a

pub byte-steps : (m a b : ℕ) → byte (steps m a) b ≡ steps (8 + m) (bit_xor a (b * 2 ^ m))
unfolding byte
byte-steps m a b =
    ap (steps 8) (ap (bit_xor (steps m a)) (sym (steps-shift m b)) ∙ sym (steps-xor m a (b * 2 ^ m)))
    ∙ sym (steps-add 8 m (bit_xor a (b * 2 ^ m)))

pub steps-none : (n : ℕ) → steps n 0 ≡ 0
unfolding step steps
steps-none zero = refl
steps-none (suc n) = ap step (steps-none n)

pub cut : (k n x : ℕ) → steps (n + k) x ≡ bit_xor (steps (n + k) (x % 2 ^ k)) (steps n (x / 2 ^ k))
cut k n x =
    let high = x / 2 ^ k * 2 ^ k in
    let low = x % 2 ^ k in
    ap (steps (n + k)) (sym (xor-split x k)) ∙ steps-xor (n + k) high low ∙ xor_comm (steps (n + k) high) (steps (n + k) low)
    ∙ ap (bit_xor (steps (n + k) low)) (steps-add n k high ∙ ap (steps n) (steps-shift k (x / 2 ^ k)))
