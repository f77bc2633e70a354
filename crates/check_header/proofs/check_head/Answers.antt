-- `check_header::check_head` meets its contract: a row for each return.
use Rattle.check_header.proofs.HeaderRows.{head_rows}
use Rattle.check_header.proofs.check_head.Goals as goal

pub returns-then-h-sh : goal.returns-then-h-sh
returns-then-h-sh c = search head_rows

pub returns-then-h-sh-2 : goal.returns-then-h-sh-2
returns-then-h-sh-2 c = search head_rows

pub returns-then-h-ne-STATED : goal.returns-then-h-ne-STATED
returns-then-h-ne-STATED c = search head_rows

pub returns-then-h-ne0 : goal.returns-then-h-ne0
returns-then-h-ne0 c = search head_rows

pub returns-then-h-ne0-2 : goal.returns-then-h-ne0-2
returns-then-h-ne0-2 c = search head_rows

pub returns-then-h-ne0-3 : goal.returns-then-h-ne0-3
returns-then-h-ne0-3 c = search head_rows

pub returns-then-h-gt1 : goal.returns-then-h-gt1
returns-then-h-gt1 c = search head_rows

pub returns : goal.returns
returns c = search head_rows
