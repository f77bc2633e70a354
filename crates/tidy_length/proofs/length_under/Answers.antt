-- `tidy_length::length_under` meets its contract: the segment's first refusal, or the length where it keeps to the limit.
use mathlib.Core.Path.{◌≡◌, sym, ◌∙◌}
use native.Mathlib.Omega.{arith}
use borrow.Author.Rules.{rules}
use Rattle.std.specs.Prelude.{Err}
use Rattle.segment.specs.Format.{v3}
use Rattle.segment.proofs.Shapes.{v3-shaped}
use Rattle.check_book.proofs.Readable.{under-readable, read}
use Rattle.tidy_length.proofs.Summing.{sized-stop, sized-large, sized-done}
use Rattle.tidy_length.proofs.length_under.Goals as goal

pub returns-in_err-check_segment : goal.returns-in_err-check_segment
returns-in_err-check_segment c =
    let e : c.from_residual.result ≡ Err c.in_err-check_segment.field-0.0 = search rules in
    e ∙ sized-stop _ _ _ (sym c.check_segment.ensures ∙ c.in_err-check_segment.was)

pub of-requires : goal.of-requires
of-requires c =
    let readable = under-readable v3 v3-shaped _ _ c.requires (sym c.check_segment.ensures ∙ c.in_ok-check_segment.was) in
    omega (arith, readable.long)

pub length_of-n-requires : goal.length_of-n-requires
length_of-n-requires c =
    read _ _ _ c.of.ensures (under-readable v3 v3-shaped _ _ c.requires (sym c.check_segment.ensures ∙ c.in_ok-check_segment.was))

pub returns-then-n-gt-LIMIT : goal.returns-then-n-gt-LIMIT
returns-then-n-gt-LIMIT c =
    sized-large _ _ (sym c.check_segment.ensures ∙ c.in_ok-check_segment.was) _ c.length_of-n.ensures c.if-n-gt-LIMIT.true

pub returns : goal.returns
returns c =
    sized-done _ _ (sym c.check_segment.ensures ∙ c.in_ok-check_segment.was) _ c.length_of-n.ensures c.if-n-gt-LIMIT.false
