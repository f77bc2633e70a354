-- `asl::by::asl_raw_step_by` meets its contract: the table, and what a step of the walk says under it.
use mathlib.Core.Path.{◌≡◌}
use borrow.Author.Rules.{rules}
use native.Mathlib.Omega.{arith}
use lib.Dec.{lit<}
use Rattle.std.specs.Prelude.{Ok, Some, None}
use mathlib.Core.Path.{◌∙◌}
use Rattle.c_table.proofs.Taking.{taken-alike}
use Rattle.asl.proofs.Called.{step-place, step_row, step-done, step-refused}
use Rattle.asl.proofs.by.asl_raw_step_by.Goals as goal

pub give-requires : goal.give-requires
give-requires c = record { value_lt_value_limit = lit< tt; values_len_bound = omega arith }

pub bits-requires : goal.bits-requires
bits-requires c = record { number_bound = lit< tt; value_lt_value_limit = lit< tt }

pub refuse-requires : goal.refuse-requires
refuse-requires c =
    step-place _ _ (taken-alike _ (c.pairs.ensures ∙ c.new-lent.ensures)) _ _ c.step_from_by.result c.step_from_by.ensures {x = c.in-Err.r} c.in-Err.is

pub returns-in-Ok-Some : goal.returns-in-Ok-Some
returns-in-Ok-Some c =
    let e : c.step_from_by.result ≡ Ok (Some c.in-Ok-Some.r) = search rules in
    step_row _ _ (taken-alike _ (c.pairs.ensures ∙ c.new-lent.ensures)) _ _ c.step_from_by.result c.step_from_by.ensures _ _ _ _ e c.record_numbers-values.ensures c.give.ensures

pub returns-in-Ok-None : goal.returns-in-Ok-None
returns-in-Ok-None c =
    let e : c.step_from_by.result ≡ Ok None = search rules in
    step-done _ _ (taken-alike _ (c.pairs.ensures ∙ c.new-lent.ensures)) _ _ c.step_from_by.result c.step_from_by.ensures _ e c.bits.ensures

pub returns-in-Err : goal.returns-in-Err
returns-in-Err c =
    step-refused _ _ (taken-alike _ (c.pairs.ensures ∙ c.new-lent.ensures)) _ _ c.step_from_by.result c.step_from_by.ensures _ {x = c.in-Err.r} c.in-Err.is c.refuse.ensures
