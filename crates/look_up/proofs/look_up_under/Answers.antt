-- `look_up::look_up_under` meets its contract: the key, the segment, and then the record.
use mathlib.Core.Bool.{not}
use mathlib.Core.Path.{◌≡◌, sym, ◌∙◌, ap}
use borrow.Author.Rules.{rules}
use Rattle.std.specs.Prelude.{Err}
use Rattle.segment.specs.Format.{v3}
use Rattle.segment.proofs.Shapes.{v3-shaped}
use Rattle.check_book.proofs.Readable.{under-readable}
use Rattle.look_up.proofs.Finding.{unknown-key, segment-stop, segment-pass}
use Rattle.look_up.proofs.look_up_under.Goals as goal

pub returns-then-not-allows : goal.returns-then-not-allows
returns-then-not-allows c = unknown-key _ _ _ _ c.allows.ensures (ap not c.if-not-allows.true)

pub returns-in_err-check_segment : goal.returns-in_err-check_segment
returns-in_err-check_segment c =
    let e : c.from_residual.result ≡ Err c.in_err-check_segment.field-0.0 = search rules in
    e ∙ segment-stop _ _ _ _ c.allows.ensures (ap not c.if-not-allows.false) _ (sym c.check_segment.ensures ∙ c.in_err-check_segment.was)

pub find-requires : goal.find-requires
find-requires c =
    under-readable v3 v3-shaped _ _ c.requires (sym c.check_segment.ensures ∙ c.in_ok-check_segment.was)

pub returns : goal.returns
returns c =
    segment-pass _ _ _ _ c.allows.ensures (ap not c.if-not-allows.false) (sym c.check_segment.ensures ∙ c.in_ok-check_segment.was) c.find.ensures
