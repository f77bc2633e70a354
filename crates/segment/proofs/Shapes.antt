-- What a shape gives whoever reads or writes its records.
--   v3-shaped       version 3 has what is asked of a shape
--   shaped-least, shaped-most, shaped-divides   a record's size
--   shaped-limit    a total
--   records-fit     the bytes of a segment's records
--   total_inside    in a record that lies in the segment, the total lies there too
-- Assumes nothing.
use Prim.Native.Nat.{ℕ, ◌+◌, ◌*◌, ◌%◌, ◌≤◌, ◌<◌}
use mathlib.Core.Path.{◌≡◌, refl, ap, subst, ◌∙◌}
use mathlib.Core.Bool.{Bool, cond}
use mathlib.Core.List.{List}
use native.Mathlib.Nat.{mul-le-mul}
use native.Mathlib.Omega.{arith}
use lib.Dec.{lit<}
use lib.ListN.{length}
use Rattle.lists.proofs.Tests.{by-test}
use Rattle.segment.specs.declared.shape.Shape.{Shape}
use Rattle.segment.specs.Format.{v3, record_bytes}
use Rattle.segment.specs.Shapes.{Shaped}

pub v3-shaped : Shaped v3
v3-shaped = record { magic = lit< tt; version = lit< tt; size = refl; limit = lit< tt }

module _ (sh : Shape) (w : Shaped sh) where
  -- a size is 56 or 48
  by_size : {P : Type 0} → (sh.record_size ≡ 56 → P) → (sh.record_size ≡ 48 → P) → P
  by_size f g =
      by-test sh.total_wide
      (λ e. f (w.size ∙ ap record_bytes e))
      (λ e. g (w.size ∙ ap record_bytes e))

  pub shaped-least : 48 ≤ sh.record_size
  shaped-least = by_size (λ e. omega arith) (λ e. omega arith)

  pub shaped-most : sh.record_size ≤ 56
  shaped-most = by_size (λ e. omega arith) (λ e. omega arith)

  pub shaped-divides : (n : ℕ) → (sh.record_size * n) % 8 ≡ 0
  shaped-divides n = by_size (λ e. rw e (omega arith)) (λ e. rw e (omega arith))

  pub shaped-limit : sh.total_limit < 18446744073709551616
  shaped-limit =
      by-test sh.total_wide
      (λ e. subst (λ (b : Bool). sh.total_limit < cond b 18446744073709551616 4294967296) e w.limit)
      (λ e. let l : sh.total_limit < 4294967296 = subst (λ (b : Bool). sh.total_limit < cond b 18446744073709551616 4294967296) e w.limit in omega arith)

  -- as many records as a segment may have are no more bytes than a number can say
  pub records-fit : (n : ℕ) → n ≤ 65536 → sh.record_size * n < 18446744073709551616
  records-fit n l = omega (arith, mul-le-mul shaped-most l)

  pub total_inside : (s : List ℕ) (at : ℕ) → at + sh.record_size ≤ length s → at + record_bytes sh.total_wide ≤ length s
  total_inside s at h = subst (λ (n : ℕ). at + n ≤ length s) w.size h
