-- `look_up_extents::extents_of_by` meets its contract: each answer's own part.
use mathlib.Core.Path.{ap, ◌∙◌}
use native.Mathlib.Omega.{arith}
use Rattle.std.specs.Prelude.{Ok}
use Rattle.look_up_extents.proofs.Parts.{inside, part-absent, part-gone, part-present, part-refused}
use Rattle.look_up_extents.proofs.extents_of_by.Goals as goal

pub cut-requires : goal.cut-requires
cut-requires c = omega (arith, inside _ _ _ _ c.look_up_by.ensures (c.in-Ok-Present.is ∙ ap Ok c.in-Ok-Present.field-0-is))

pub returns-in-Ok-Present : goal.returns-in-Ok-Present
returns-in-Ok-Present c = part-present _ _ _ _ c.look_up_by.ensures _ (c.in-Ok-Present.is ∙ ap Ok c.in-Ok-Present.field-0-is) c.cut.ensures

pub returns-in-Ok-Gone : goal.returns-in-Ok-Gone
returns-in-Ok-Gone c = part-gone _ _ _ _ c.look_up_by.ensures _ (c.in-Ok-Gone.is ∙ ap Ok c.in-Ok-Gone.field-0-is) c.cut-in-Ok-Gone.ensures

pub returns-in-Ok-Absent : goal.returns-in-Ok-Absent
returns-in-Ok-Absent c = part-absent _ _ _ _ c.look_up_by.ensures _ (c.in-Ok-Absent.is ∙ ap Ok c.in-Ok-Absent.field-0-is) c.cut-in-Ok-Absent.ensures

pub returns-in-Err : goal.returns-in-Err
returns-in-Err c = part-refused _ _ _ _ c.look_up_by.ensures _ c.in-Err.is c.cut-in-Err.ensures
