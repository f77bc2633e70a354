-- What the header's check tells.
--   header_rules   2 to 4 and 51 to 55
-- Assumes nothing: these are definitions.
use Rattle.std.specs.Prelude.{ℕ}
use Rattle.answer.specs.Rules.{◌then◌, Verdict}
use Rattle.segment.specs.declared.header.Header.{Header}
use Rattle.segment.specs.declared.shape.Shape.{Shape}
use Rattle.segment.specs.Check.{head_verdict, layout_verdict}

-- 2 to 4 and 51 to 55, of a file of n bytes
unfoldable pub header_rules : Shape → Header → ℕ → Verdict
header_rules sh h n = head_verdict sh h then layout_verdict sh h n
