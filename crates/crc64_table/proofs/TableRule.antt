-- Where the test of TableTest holds, each number of the tables is the byte of its place after as many steps as its table has.
-- Assumes nothing.
use mathlib.Core.Path.{◌≡◌, sym, ap, ◌∙◌}
use mathlib.Core.Bool.{true}
use mathlib.Core.List.{List, ◌++◌}
use Prim.Native.Nat.{ℕ, zero, suc, ◌+◌, ◌-◌, ◌*◌, ◌/◌, ◌%◌, ◌<◌}
use native.Mathlib.Nat.{zero-add, mod-lt}
use native.Mathlib.Omega.{arith}
use lib.Bits.{bit_xor}
use lib.ListN.{get_or, take, get_or-append, get_or-map}
use lib.Seq.{get_or-take, get_or-append-add}
use Rattle.lists.proofs.Equal.{eq_list-iff}
use Rattle.lists.proofs.Counted.{counted-long, counted-at}
use Rattle.crc64.specs.Crc.{step, steps}
use Rattle.crc64_laws.proofs.StepLaws.{steps-add, cut}
use Rattle.crc64_table.specs.Tables.{Tables}
use Rattle.crc64_table.proofs.TableTest.{tested, shifted, bytes, later, ruled, right}

module _ (t : List ℕ) (same : take tested t ≡ bytes ++ later t) where
  there : (i : ℕ) → i < tested → get_or t i 0 ≡ get_or (bytes ++ later t) i 0
  there i h = sym (get_or-take tested t i 0 h) ∙ ap (λ (xs : List ℕ). get_or xs i 0) same

  low : (b : ℕ) → b < 256 → get_or t b 0 ≡ steps 8 b
  low b h =
      there b (omega arith) ∙ get_or-append bytes (later t) 0 b (rw (counted-long (steps 8) 0 256) h)
      ∙ counted-at (steps 8) 0 256 b 0 h ∙ ap (steps 8) (zero-add b)

  eight : (x : ℕ) → shifted t x ≡ steps 8 x
  unfolding shifted steps
  eight x = ap (λ (y : ℕ). bit_xor y (x / 256)) (low (x % 256) (mod-lt x (omega arith))) ∙ sym (cut 8 0 x)

  next : (i : ℕ) → i < tested - 256 → get_or t (256 + i) 0 ≡ steps 8 (get_or t i 0)
  unfolding step steps
  next i h =
      there (256 + i) (omega arith) ∙ ap (λ (m : ℕ). get_or (bytes ++ later t) (m + i) 0) (sym (counted-long (steps 8) 0 256))
      ∙ get_or-append-add bytes (later t) i 0 ∙ ap (get_or (later t) i) (sym (eight 0))
      ∙ get_or-map (shifted t) (take (tested - 256) t) i 0 ∙ eight (get_or (take (tested - 256) t) i 0)
      ∙ ap (steps 8) (get_or-take (tested - 256) t i 0 h)

  at : (k b : ℕ) → k < 8 → b < 256 → get_or t (k * 256 + b) 0 ≡ steps (8 * k + 8) b
  at zero b hk hb = ap (λ (i : ℕ). get_or t i 0) (zero-add b) ∙ low b hb
  at (suc k) b hk hb =
      let i : suc k * 256 + b ≡ 256 + (k * 256 + b) = omega arith in
      let n : 8 + (8 * k + 8) ≡ 8 * suc k + 8 = omega arith in
      ap (λ (i : ℕ). get_or t i 0) i ∙ next (k * 256 + b) (omega arith) ∙ ap (steps 8) (at k b (omega arith) hb)
      ∙ sym (steps-add 8 (8 * k + 8) b) ∙ ap (λ (m : ℕ). steps m b) n

pub holds : (t : List ℕ) → right t ≡ true → Tables t
unfolding right ruled
holds t p = record { entry = at t ((eq_list-iff (take tested t) (bytes ++ later t)).0 p) }
