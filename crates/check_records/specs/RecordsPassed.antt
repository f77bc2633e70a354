-- What the check of the records tells.
--   passed          what the pass over the first n records comes to
-- Assumes nothing: these are definitions.
use Rattle.std.specs.Prelude.{ℕ, List, Result, Ok}
use Rattle.answer.specs.declared.Refusal.{Refusal}
use Rattle.answer.specs.Rules.{◌then◌, first_over}
use Rattle.segment.specs.declared.header.Header.{Header}
use Rattle.segment.specs.declared.shape.Shape.{Shape}
use Rattle.segment.specs.Check.{record_verdict, largest_below, visibility_no}

unfoldable pub passed : Shape → List ℕ → List ℕ → Header → ℕ → Result ℕ Refusal
passed sh pairs s h n = first_over n (record_verdict sh pairs s h) then Ok (largest_below n (visibility_no sh s h))
