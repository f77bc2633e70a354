-- `asl::by::asl_raw_tidy_length_by` meets its contract: the table, and how long the tidy form is under it.
use mathlib.Core.Path.{◌∙◌}
use Rattle.c_table.proofs.Taking.{taken-alike}
use Rattle.asl.proofs.Called.{length-small, length-said}
use Rattle.asl.proofs.by.asl_raw_tidy_length_by.Goals as goal

pub settle-requires : goal.settle-requires
settle-requires c =
    length-small _ _ (taken-alike _ (c.pairs.ensures ∙ c.new-lent.ensures)) _ c.tidy_length_by.result c.tidy_length_by.ensures

pub returns : goal.returns
returns c =
    length-said _ _ (taken-alike _ (c.pairs.ensures ∙ c.new-lent.ensures)) _ c.tidy_length_by.result c.tidy_length_by.ensures c.settle.ensures
