-- `write_request::check_entries` meets its contract: nothing is refused below k.
use mathlib.Core.Path.{◌≡◌, sym, ◌∙◌}
use native.Mathlib.Omega.{arith}
use borrow.Author.Rules.{rules}
use Rattle.std.specs.Prelude.{Err}
use Rattle.answer.proofs.Order.{first-none}
use Rattle.write_request.proofs.RequestOrder.{entry-refused, entry-passed, entries-passed}
use Rattle.write_request.proofs.check_entries.Goals as goal

pub loop-k-init : goal.loop-k-init
loop-k-init c = first-none _

pub returns-in_err-check_entry : goal.returns-in_err-check_entry
returns-in_err-check_entry c =
    let e : c.from_residual.result ≡ Err c.in_err-check_entry.field-0.0 = search rules in
    e ∙ entry-refused _ _ _ _ _ _ c.loop-k.invariant _ c.at.ensures _ c.place_of.ensures _ _ (omega arith)
    (sym c.check_entry.ensures ∙ c.in_err-check_entry.was)

pub loop-k-preserved : goal.loop-k-preserved
loop-k-preserved c =
    entry-passed _ _ _ _ _ _ c.loop-k.invariant _ c.at.ensures _ c.place_of.ensures (sym c.check_entry.ensures ∙ c.in_ok-check_entry.was)

pub returns : goal.returns
returns c = entries-passed _ _ _ _ _ _ c.loop-k.invariant _ (omega arith) (omega arith)
