-- The laws of the plain engine's loops, and of a run over two parts.
--   run-append   a run over two lists is the run over the second from where the first left the register
--   crc-parts    so the checksum of two parts, run one after the other, is the checksum of both
-- Assumes nothing.
use mathlib.Core.Path.{◌≡◌, refl, sym, ap, ◌∙◌}
use mathlib.Core.List.{List, [], ◌∷◌, ◌++◌}
use Prim.Native.Nat.{ℕ, ◌+◌, ◌-◌, ◌/◌, ◌%◌, ◌≤◌, ◌<◌}
use native.Mathlib.Numerals.{add-one}
use native.Mathlib.Omega.{arith}
use lib.ListN.{length, get_or, take, drop, drop_of_length-le}
use lib.Seq.{drop-cons, take_all}
use lib.Bits.{bit_xor, xor_zero_r}
use Rattle.crc64.specs.Crc.{poly, ones, step, steps, byte, run, crc}

pub run-append : (s t : List ℕ) (c : ℕ) → run c (s ++ t) ≡ run (run c s) t
unfolding run
run-append [] t c = refl
run-append (b ∷ s) t c = run-append s t (byte c b)

pub crc-parts : (s t : List ℕ) → bit_xor (run (run ones s) t) ones ≡ crc (s ++ t)
unfolding crc
crc-parts s t = rw run-append

-- the two ways of one bit
pub step-odd : (c : ℕ) → c % 2 ≡ 1 → step c ≡ bit_xor (c / 2) poly
unfolding step
step-odd c e = rw e

pub step-even : (c : ℕ) → (c % 2 ≡ 1 → ⊥) → step c ≡ c / 2
unfolding step
step-even c e =
    let z : c % 2 ≡ 0 = omega arith in
    rw z (xor_zero_r (c / 2))

-- one step more, as a loop that counts up takes it
pub steps_more : (k c : ℕ) → steps (k + 1) c ≡ step (steps k c)
unfolding steps
steps_more k c = rw add-one

-- a run from place i on: the byte there first, and past the end no byte
pub run_more : (s : List ℕ) (c i : ℕ) → i < length s → run c (drop i s) ≡ run (byte c (get_or s i 0)) (drop (i + 1) s)
unfolding run
run_more s c i h = rw (add-one, drop-cons s i 0)

pub run_none : (s : List ℕ) (c i : ℕ) → length s ≤ i → run c (drop i s) ≡ c
unfolding run
run_none s c i h = ap (run c) (drop_of_length-le s h)

-- a run over s that began with the register c₀ has come to i with the register c
pub record Reached (c₀ : ℕ) (s : List ℕ) (c i : ℕ) : Type 0 where
  pub within : i ≤ length s
  pub same : run c₀ s ≡ run c (drop i s)

pub at-start : (c₀ : ℕ) (s : List ℕ) → Reached c₀ s c₀ 0
at-start c₀ s = record { within = omega arith; same = refl }

pub one_more : {s : List ℕ} {c₀ c i : ℕ} → Reached c₀ s c i → i < length s → Reached c₀ s (byte c (get_or s i 0)) (i + 1)
one_more {s} {c₀} {c} {i} r h = record { within = omega arith; same = r.same ∙ run_more s c i h }

pub at-end : {s : List ℕ} {c₀ c i : ℕ} → Reached c₀ s c i → length s ≤ i → c ≡ run c₀ s
at-end {s} {c₀} {c} {i} r h = sym (r.same ∙ run_none s c i h)

-- a part of a list from its first element on is the list
pub run_whole : (c : ℕ) (s : List ℕ) → run c s ≡ run c (take (length s - 0) (drop 0 s))
run_whole c s = ap (run c) (sym (take_all (length s - 0) s (omega arith)))
