-- `asl::by::asl_raw_write_by` meets its contract: the table, and what write says under it.
use mathlib.Core.Path.{◌∙◌}
use Rattle.c_table.proofs.Taking.{taken-alike}
use Rattle.asl.proofs.Called.{write-small, written}
use Rattle.asl.proofs.by.asl_raw_write_by.Goals as goal

pub settle-requires : goal.settle-requires
settle-requires c =
    write-small _ _ (taken-alike _ (c.pairs.ensures ∙ c.new-lent.ensures)) _ _ _ c.write_by-answer.result c.write_by-answer.ensures

pub returns : goal.returns
returns c =
    written _ _ (taken-alike _ (c.pairs.ensures ∙ c.new-lent.ensures)) _ _ _ c.write_by-answer.result c.write_by-answer.ensures c.settle.ensures
