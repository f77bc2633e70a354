-- `check_segment::check_rules` meets its contract: the header, and then the rest.
use mathlib.Core.Path.{◌≡◌, sym, ◌∙◌}
use native.Mathlib.Omega.{arith}
use borrow.Author.Rules.{rules}
use Rattle.std.specs.Prelude.{Err}
use Rattle.check_header.proofs.HeaderOrder.{laid_of}
use Rattle.check_segment.proofs.SegmentOrder.{header-stop, header-pass}
use Rattle.check_segment.proofs.check_rules.Goals as goal

pub returns-in_err-check_header : goal.returns-in_err-check_header
returns-in_err-check_header c =
    let e : c.from_residual.result ≡ Err c.in_err-check_header.field-0.0 = search rules in
    e ∙ header-stop _ _ _ _ _ (sym c.check_header.ensures ∙ c.in_err-check_header.was)

pub check_body-requires : goal.check_body-requires
check_body-requires c = laid_of _ c.requires.shaped _ _ (sym c.check_header.ensures ∙ c.in_ok-check_header.was) (omega arith)

pub returns : goal.returns
returns c = header-pass _ _ _ _ (sym c.check_header.ensures ∙ c.in_ok-check_header.was) c.check_body.ensures
