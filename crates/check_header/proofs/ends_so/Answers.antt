-- `check_header::ends_so` meets its contract: what is left of the file is counted.
use Rattle.check_header.proofs.HeaderRows.{too_short, no-extents, not-whole, counted}
use Rattle.check_header.proofs.ends_so.Goals as goal

pub returns-then-n-lt-LONG : goal.returns-then-n-lt-LONG
returns-then-n-lt-LONG c = search too_short

pub returns-then-body-extents : goal.returns-then-body-extents
returns-then-body-extents c = search no-extents

pub returns-then-rest-ne0 : goal.returns-then-rest-ne0
returns-then-rest-ne0 c = search not-whole

pub returns : goal.returns
returns c = search counted
