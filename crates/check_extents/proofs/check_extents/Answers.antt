-- `check_extents::check_extents` meets its contract: a row for each return.
use native.Mathlib.Omega.{arith}
use Rattle.check_extents.proofs.ExtentRows.{extents-rows}
use Rattle.check_extents.proofs.check_extents.Goals as goal

pub returns-then-at-ne0 : goal.returns-then-at-ne0
returns-then-at-ne0 c = search extents-rows

pub returns-then-count-ne0 : goal.returns-then-count-ne0
returns-then-count-ne0 c = search extents-rows

pub returns-then-r-eq1 : goal.returns-then-r-eq1
returns-then-r-eq1 c = search extents-rows

pub returns-then-count-lt1 : goal.returns-then-count-lt1
returns-then-count-lt1 c = search extents-rows

pub returns-then-at-start : goal.returns-then-at-start
returns-then-at-start c = search extents-rows

pub returns-then-at-start-ne0 : goal.returns-then-at-start-ne0
returns-then-at-start-ne0 c = search extents-rows

pub overflow_mul-end : goal.overflow_mul-end
overflow_mul-end c = omega arith

pub overflow_add-end : goal.overflow_add-end
overflow_add-end c = omega arith

pub returns-then-end-at : goal.returns-then-end-at
returns-then-end-at c = search extents-rows

pub overflow_mul-count : goal.overflow_mul-count
overflow_mul-count c = omega arith

pub returns-then-end-at-2 : goal.returns-then-end-at-2
returns-then-end-at-2 c = search extents-rows

pub returns : goal.returns
returns c = search extents-rows
