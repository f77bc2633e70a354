-- `asl::by::asl_raw_check_by` meets its contract: the table, and what check says under it.
use mathlib.Core.Path.{◌∙◌}
use Rattle.c_table.proofs.Taking.{taken-alike}
use Rattle.asl.proofs.Called.{check-accepted, check-refused, check-place}
use Rattle.asl.proofs.by.asl_raw_check_by.Goals as goal

pub refuse-requires : goal.refuse-requires
refuse-requires c =
    check-place _ _ (taken-alike _ (c.pairs.ensures ∙ c.new-lent.ensures)) _ c.check_by.result c.check_by.ensures {x = c.in-Err.r} c.in-Err.is

pub returns-in-Ok : goal.returns-in-Ok
returns-in-Ok c =
    check-accepted _ _ (taken-alike _ (c.pairs.ensures ∙ c.new-lent.ensures)) _ c.check_by.result c.check_by.ensures c.in-Ok.is

pub returns-in-Err : goal.returns-in-Err
returns-in-Err c =
    check-refused _ _ (taken-alike _ (c.pairs.ensures ∙ c.new-lent.ensures)) _ c.check_by.result c.check_by.ensures {x = c.in-Err.r} c.in-Err.is c.refuse.ensures
