-- What the check of a record's extents tells.
--   summed        the lengths of extents added up, if each keeps inside its block
--   slices_rules   9 and 10 of a record
-- Assumes nothing: these are definitions.
use Rattle.std.specs.Prelude.{ℕ, cond, List, None, Option, Some}
use Rattle.answer.specs.Rules.{◌then◌, Verdict}
use Rattle.segment.specs.declared.header.Header.{Header}
use Rattle.segment.specs.declared.record.Record.{Record}
use Rattle.segment.specs.declared.extent.Extent.{Extent}
use Rattle.segment.specs.declared.shape.Shape.{Shape}
use Rattle.segment.specs.Check.{extents_verdict, all_fit, sum_lengths, total_verdict}

unfoldable pub summed : List Extent → Option ℕ
summed es = cond (all_fit es) (Some (sum_lengths es)) None

unfoldable pub slices_rules : Shape → List ℕ → Header → Record → ℕ → Verdict
slices_rules sh s h r k = extents_verdict h r k then total_verdict sh s r k
