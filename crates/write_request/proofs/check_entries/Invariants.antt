-- `write_request::check_entries` meets its contract: nothing is refused below k.
use mathlib.Core.Path.{◌≡◌}
use Rattle.answer.specs.Rules.{first_over, accepted}
use Rattle.segment.specs.Write.{entry_verdict}
use Rattle.write_request.proofs.check_entries.Given as goal

abbrev pub invariant-loop-k : goal.invariant-loop-k
invariant-loop-k l = first_over l.k (entry_verdict l.sh l.pairs l.entries l.digests l.extents) ≡ accepted
