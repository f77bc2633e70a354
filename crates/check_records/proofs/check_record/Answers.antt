-- `check_records::check_record` meets its contract: the tables in the order of the rules.
use borrow.Author.Rules.{rules}
use Rattle.segment.specs.Check.{record_rules}
use Rattle.check_extents.specs.ExtentRules.{slices_rules}
use Rattle.check_records.proofs.check_record.Goals as goal

pub returns-in_err-check_marks : goal.returns-in_err-check_marks
unfolding record_rules
returns-in_err-check_marks c = search rules

pub returns-in_err-check_digest : goal.returns-in_err-check_digest
unfolding record_rules
returns-in_err-check_digest c = search rules

pub returns : goal.returns
unfolding record_rules slices_rules
returns c = search rules
