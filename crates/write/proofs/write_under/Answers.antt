-- `write::write_under` meets its contract: the request's first refusal, or its items in tidy order.
use mathlib.Core.Path.{sym, ◌∙◌, ◌≡◌}
use borrow.Author.Rules.{rules}
use Rattle.std.specs.Prelude.{Err}
use Rattle.segment.specs.Format.{v3}
use Rattle.segment.proofs.Shapes.{v3-shaped}
use Rattle.put_tidy.proofs.EmittedAfter.{emitted-refused, emitted-written}
use Rattle.write.proofs.RequestItems.{entry-lines, few-entries, same-form}
use Rattle.write.proofs.write_under.Goals as goal

pub returns-in_err-check_request : goal.returns-in_err-check_request
returns-in_err-check_request c =
    let e : c.from_residual.result ≡ Err c.in_err-check_request.field-0.0 = search rules in
    rw e (emitted-refused _ _ _ _ (sym c.check_request.ensures ∙ c.in_err-check_request.was))

pub put_tidy-requires : goal.put_tidy-requires
put_tidy-requires c =
    let passed = sym c.check_request.ensures ∙ c.in_ok-check_request.was in
    let a = c.args in
    let lent = c.entries.ensures in
    record {
      shaped = v3-shaped;
      all_lines = rw (lent.kind, lent.bytes, lent.list) (entry-lines v3 v3-shaped a.pairs.now a.bloom.now _ _ a.extents.now c.requires passed);
      n_le_record_limit = few-entries v3 v3-shaped a.pairs.now a.bloom.now a.entries.now a.digests.now a.extents.now c.requires passed;
    }

pub returns : goal.returns
returns c =
    let lent = c.entries.ensures in
    let a = c.args in
    emitted-written _ _ _ _ _ _ (sym c.check_request.ensures ∙ c.in_ok-check_request.was)
    (rw (lent.kind, lent.bytes, lent.list) (same-form v3 a.t a.bloom.now a.entries.now a.digests.now a.extents.now)) c.put_tidy.ensures
