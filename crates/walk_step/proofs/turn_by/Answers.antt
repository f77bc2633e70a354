-- `walk_step::turn_by` meets its contract: the answer's case says the place after it.
use mathlib.Core.Path.{◌≡◌}
use borrow.Author.Rules.{rules}
use native.Mathlib.Omega.{arith}
use Rattle.std.specs.Prelude.{Some, None, Ok}
use Rattle.walk_step.proofs.Stepping.{few-rows, turned-row, turned-done, turned-refused}
use Rattle.walk_step.proofs.turn_by.Goals as goal

pub overflow_add-result : goal.overflow_add-result
overflow_add-result c =
    let e : c.step_at-step.result ≡ Ok (Some c.in-Ok-Some.field-0-0) = search rules in
    omega (arith, few-rows _ _ _ _ c.step_at-step.ensures _ e)

pub returns-in-Ok-Some : goal.returns-in-Ok-Some
returns-in-Ok-Some c =
    let e : c.step_at-step.result ≡ Ok (Some c.in-Ok-Some.field-0-0) = search rules in
    turned-row _ _ _ _ c.step_at-step.ensures _ e

pub returns-in-Ok-None : goal.returns-in-Ok-None
returns-in-Ok-None c =
    let e : c.step_at-step.result ≡ Ok None = search rules in
    turned-done _ _ _ _ c.step_at-step.ensures e

pub returns-in-Err : goal.returns-in-Err
returns-in-Err c = turned-refused _ _ _ _ c.step_at-step.ensures _ c.in-Err.is
