-- `walk_step::step_at` meets its contract: check, and then the record.
use mathlib.Core.Path.{◌≡◌, ◌∙◌}
use borrow.Author.Rules.{rules}
use Rattle.std.specs.Prelude.{Err}
use native.Mathlib.Omega.{arith}
use Rattle.segment.specs.Format.{v3, header_of}
use Rattle.check_book.specs.Readable.{Readable}
use Rattle.check_book.proofs.Readable.{record-inside, read}
use Rattle.walk_step.proofs.Stepping.{stops, readable, ends, gives}
use Rattle.walk_step.proofs.step_at.Goals as goal

pub returns-in_err-check_by : goal.returns-in_err-check_by
returns-in_err-check_by c =
    let e : c.from_residual.result ≡ Err c.in_err-check_by.field-0.0 = search rules in
    e ∙ stops _ _ c.check_by.result c.check_by.ensures _ _ c.in_err-check_by.was

pub of-h-requires : goal.of-h-requires
of-h-requires c =
    let passed : Readable v3 c.args.segment.now (header_of c.args.segment.now) = readable _ _ c.check_by.result c.check_by.ensures c.in_ok-check_by.was in
    omega (arith, (passed).long)

pub returns-then-count-at : goal.returns-then-count-at
returns-then-count-at c = ends _ _ c.check_by.result c.check_by.ensures _ c.in_ok-check_by.was _ c.of-h.ensures (omega arith)

pub nth_record-requires : goal.nth_record-requires
nth_record-requires c =
    let known : Readable v3 c.args.segment.now c.of-h.result =
    let passed : Readable v3 c.args.segment.now (header_of c.args.segment.now) = readable _ _ c.check_by.result c.check_by.ensures c.in_ok-check_by.was in
    read _ _ _ c.of-h.ensures (passed) in
    let laid = (known).laid in
    record { shaped = laid.shaped; record_size_in_bounds = record-inside laid c.args.at (omega arith) }

pub returns : goal.returns
returns c =
    gives _ _ c.check_by.result c.check_by.ensures _ c.in_ok-check_by.was _ c.of-h.ensures _ (omega arith) c.nth_record.ensures
