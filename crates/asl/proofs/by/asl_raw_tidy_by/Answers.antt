-- `asl::by::asl_raw_tidy_by` meets its contract: the table, and what tidy says under it.
use mathlib.Core.Path.{◌∙◌}
use Rattle.c_table.proofs.Taking.{taken-alike}
use Rattle.asl.proofs.Called.{tidy-small, tidied}
use Rattle.asl.proofs.by.asl_raw_tidy_by.Goals as goal

pub settle-requires : goal.settle-requires
settle-requires c =
    tidy-small _ _ (taken-alike _ (c.pairs.ensures ∙ c.new-lent.ensures)) _ _ _ c.tidy_by-answer.result c.tidy_by-answer.ensures

pub returns : goal.returns
returns c =
    tidied _ _ (taken-alike _ (c.pairs.ensures ∙ c.new-lent.ensures)) _ _ _ c.tidy_by-answer.result c.tidy_by-answer.ensures c.settle.ensures
