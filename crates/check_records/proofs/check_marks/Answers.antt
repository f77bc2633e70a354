-- `check_records::check_marks` meets its contract: a row for each return.
use Rattle.check_records.proofs.RecordRows.{marks-rows}
use Rattle.check_records.proofs.check_marks.Goals as goal

pub returns-then-r-ne0 : goal.returns-then-r-ne0
returns-then-r-ne0 c = search marks-rows

pub returns-then-r-ne0-2 : goal.returns-then-r-ne0-2
returns-then-r-ne0-2 c = search marks-rows

pub returns-then-r-gt1 : goal.returns-then-r-gt1
returns-then-r-gt1 c = search marks-rows

pub returns-then-r-gt1-2 : goal.returns-then-r-gt1-2
returns-then-r-gt1-2 c = search marks-rows

pub returns-then-r-gt1-3 : goal.returns-then-r-gt1-3
returns-then-r-gt1-3 c = search marks-rows

pub returns-then-not-source_fits : goal.returns-then-not-source_fits
returns-then-not-source_fits c = search marks-rows

pub returns-then-r-h : goal.returns-then-r-h
returns-then-r-h c = search marks-rows

pub returns : goal.returns
returns c = search marks-rows
