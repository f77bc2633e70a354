-- `put_form::header_for` meets its contract: field by field.
use native.Mathlib.Nat.{mul-le-mul}
use native.Mathlib.Omega.{arith}
use Rattle.segment.proofs.Shapes.{shaped-most}
use Rattle.put_form.specs.Emit.{header_for}
use Rattle.put_form.proofs.header_for.Goals as goal

pub overflow_mul-digests : goal.overflow_mul-digests
overflow_mul-digests c = omega (arith, mul-le-mul (shaped-most _ c.requires.shaped) c.requires.moderate.few)

pub overflow_add-digests : goal.overflow_add-digests
overflow_add-digests c = omega (arith, mul-le-mul (shaped-most _ c.requires.shaped) c.requires.moderate.few)

pub overflow_add-result : goal.overflow_add-result
overflow_add-result c = omega (arith, mul-le-mul (shaped-most _ c.requires.shaped) c.requires.moderate.few)

pub returns : goal.returns
unfolding header_for
returns c = rw (c.padded-size.ensures, c.bloom_place-place.ensures)
