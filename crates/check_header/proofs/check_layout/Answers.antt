-- `check_header::check_layout` meets its contract: a row for each return.
use Rattle.segment.proofs.Shapes.{records-fit}
use Rattle.check_header.proofs.HeaderRows.{layout-rows}
use Rattle.check_header.proofs.check_layout.Goals as goal

pub returns-then-h-bloom_place : goal.returns-then-h-bloom_place
returns-then-h-bloom_place c = search layout-rows

pub returns-then-h-ne0 : goal.returns-then-h-ne0
returns-then-h-ne0 c = search layout-rows

pub returns-then-h-gt-MOST_RECORDS : goal.returns-then-h-gt-MOST_RECORDS
returns-then-h-gt-MOST_RECORDS c = search layout-rows

pub returns-then-not-follows : goal.returns-then-not-follows
returns-then-not-follows c = search layout-rows

pub overflow_mul-sh : goal.overflow_mul-sh
overflow_mul-sh c = search records-fit

pub returns-then-not-follows-2 : goal.returns-then-not-follows-2
returns-then-not-follows-2 c = search layout-rows

pub returns-then-h-ne0-2 : goal.returns-then-h-ne0-2
returns-then-h-ne0-2 c = search layout-rows

pub returns-then-not-follows-3 : goal.returns-then-not-follows-3
returns-then-not-follows-3 c = search layout-rows

pub returns-then-not-ends_so : goal.returns-then-not-ends_so
returns-then-not-ends_so c = search layout-rows

pub returns : goal.returns
returns c = search layout-rows
