-- `asl::by::asl_raw_look_up_by` meets its contract: the table, and what look up says under it.
use mathlib.Core.Path.{◌∙◌}
use Rattle.c_table.proofs.Taking.{taken-alike}
use Rattle.asl.proofs.Called.{look-up-sayable, looked-up}
use Rattle.asl.proofs.by.asl_raw_look_up_by.Goals as goal

pub leave-requires : goal.leave-requires
leave-requires c =
    look-up-sayable _ _ (taken-alike _ (c.pairs.ensures ∙ c.new-lent.ensures)) _ _ _ c.look_up_by-answer.ensures _ c.in_numbers.ensures

pub returns : goal.returns
returns c =
    looked-up _ _ (taken-alike _ (c.pairs.ensures ∙ c.new-lent.ensures)) _ _ _ c.look_up_by-answer.ensures _ _ _ _ c.in_numbers.ensures c.leave.ensures
