-- `tidy::tidy_under` meets its contract: the segment's first refusal, or its records in tidy order.
use mathlib.Core.Path.{◌≡◌, sym, ◌∙◌}
use borrow.Author.Rules.{rules}
use Rattle.std.specs.Prelude.{Err}
use native.Mathlib.Omega.{arith}
use Rattle.numbers.specs.Numbers.{Bytes}
use Rattle.segment.specs.Format.{v3}
use Rattle.segment.proofs.Shapes.{v3-shaped}
use Rattle.put_tidy.proofs.EmittedAfter.{emitted-refused, emitted-written}
use Rattle.check_book.proofs.Readable.{under-readable, read}
use Rattle.tidy.proofs.TidyRead.{bloom-within, read-lines, read-form}
use Rattle.tidy.proofs.tidy_under.Goals as goal

pub returns-in_err-check_segment : goal.returns-in_err-check_segment
returns-in_err-check_segment c =
    let e : c.from_residual.result ≡ Err c.in_err-check_segment.field-0.0 = search rules in
    rw e (emitted-refused _ _ _ _ (sym c.check_segment.ensures ∙ c.in_err-check_segment.was))

pub of-h-requires : goal.of-h-requires
of-h-requires c =
    let readable = under-readable v3 v3-shaped _ _ c.requires (sym c.check_segment.ensures ∙ c.in_ok-check_segment.was) in
    omega (arith, readable.long)

pub heading_of-t-requires : goal.heading_of-t-requires
heading_of-t-requires c =
    let known = read _ _ _ c.of-h.ensures (under-readable v3 v3-shaped _ _ c.requires (sym c.check_segment.ensures ∙ c.in_ok-check_segment.was)) in
    known.long

pub overflow_add-end : goal.overflow_add-end
overflow_add-end c =
    let known = read _ _ _ c.of-h.ensures (under-readable v3 v3-shaped _ _ c.requires (sym c.check_segment.ensures ∙ c.in_ok-check_segment.was)) in
    omega (arith, bloom-within _ _ _ known)

pub slice_bounds-frame-count : goal.slice_bounds-frame-count
slice_bounds-frame-count c =
    let known = read _ _ _ c.of-h.ensures (under-readable v3 v3-shaped _ _ c.requires (sym c.check_segment.ensures ∙ c.in_ok-check_segment.was)) in
    omega (arith, bloom-within _ _ _ known)

pub slice_bounds-frame-start : goal.slice_bounds-frame-start
slice_bounds-frame-start c =
    let known = read _ _ _ c.of-h.ensures (under-readable v3 v3-shaped _ _ c.requires (sym c.check_segment.ensures ∙ c.in_ok-check_segment.was)) in
    omega (arith, bloom-within _ _ _ known)

pub slice_bounds-frame-end : goal.slice_bounds-frame-end
slice_bounds-frame-end c =
    let known = read _ _ _ c.of-h.ensures (under-readable v3 v3-shaped _ _ c.requires (sym c.check_segment.ensures ∙ c.in_ok-check_segment.was)) in
    omega (arith, bloom-within _ _ _ known)

pub put_tidy-requires : goal.put_tidy-requires
put_tidy-requires c =
    let known = read _ _ _ c.of-h.ensures (under-readable v3 v3-shaped _ _ c.requires (sym c.check_segment.ensures ∙ c.in_ok-check_segment.was)) in
    let bytes : Bytes c.args.seg.now = λ i. let f = c.type_inv.seg i in omega arith in
    let lent = c.records.ensures in
    record { shaped = v3-shaped; all_lines = rw (lent.kind, lent.bytes, lent.list) (read-lines _ _ _ known bytes _ _); n_le_record_limit = known.laid.layout.few }

pub returns : goal.returns
returns c =
    let lent = c.records.ensures in
    emitted-written _ _ _ _ _ _ (sym c.check_segment.ensures ∙ c.in_ok-check_segment.was)
    (rw (lent.kind, lent.bytes, lent.list) (read-form _ _ _ _ _ _ c.of-h.ensures c.heading_of-t.ensures)) c.put_tidy.ensures
