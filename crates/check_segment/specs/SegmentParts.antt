-- What the check tells from one step to the next.
--   contents_verdict   everything after the checksum
--   body_rules         everything from the checksum on
-- Assumes nothing: these are definitions.
use Rattle.std.specs.Prelude.{ℕ, List}
use Rattle.answer.specs.Rules.{◌then◌, first_over, Verdict}
use Rattle.segment.specs.declared.header.Header.{Header}
use Rattle.segment.specs.declared.shape.Shape.{Shape}
use Rattle.segment.specs.Format.{record_count, record_at}
use Rattle.segment.specs.Keys.{fresh_key}
use Rattle.segment.specs.Check.{checksum_verdict, record_verdict, visibility_verdict, key_no}

unfoldable pub contents_verdict : Shape → List ℕ → List ℕ → Header → Verdict
contents_verdict sh pairs s h =
    first_over (record_count h) (record_verdict sh pairs s h)
    then visibility_verdict sh s h
    then first_over (record_count h) (fresh_key (key_no sh s h) (record_at sh h))

-- the checksum, and then the contents
unfoldable pub body_rules : Shape → List ℕ → List ℕ → Header → Verdict
body_rules sh pairs s h = checksum_verdict s then contents_verdict sh pairs s h
