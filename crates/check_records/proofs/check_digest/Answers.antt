-- `check_records::check_digest` meets its contract: a row for each return.
use native.Mathlib.Omega.{arith}
use Rattle.check_records.proofs.RecordRows.{digest-rows}
use Rattle.check_records.proofs.check_digest.Goals as goal

pub returns-then-not-allows : goal.returns-then-not-allows
returns-then-not-allows c = search digest-rows

pub returns-then-at-h : goal.returns-then-at-h
returns-then-at-h c = search digest-rows

pub overflow_add-end : goal.overflow_add-end
overflow_add-end c = omega arith

pub returns-then-end-at : goal.returns-then-end-at
returns-then-end-at c = search digest-rows

pub returns-then-end-at-2 : goal.returns-then-end-at-2
returns-then-end-at-2 c = search digest-rows

pub returns : goal.returns
returns c = search digest-rows
