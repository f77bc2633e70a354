-- `check_records::check_records` meets its contract: nothing is refused below k, and the largest visibility is that of the records below it.
use Prim.Native.Nat.{max}
use mathlib.Core.Path.{◌≡◌, sym, ap, ◌∙◌}
use native.Mathlib.Omega.{arith}
use borrow.Author.Rules.{rules}
use Rattle.std.specs.Prelude.{Err}
use Rattle.check_book.proofs.Readable.{laid-inside, record-inside}
use Rattle.check_records.proofs.RecordsPass.{pass-start, pass-refused, pass-more, pass-done}
use Rattle.check_records.proofs.check_records.Goals as goal

pub loop-k-init : goal.loop-k-init
loop-k-init c = pass-start _ _ _ _

pub nth_record-r-requires : goal.nth_record-r-requires
nth_record-r-requires c =
    let laid = c.requires in
    record { shaped = laid.shaped; record_size_in_bounds = record-inside laid c.loop-k.k (omega arith) }

pub begins-requires : goal.begins-requires
begins-requires c =
    let laid = c.requires in
    let inside = record-inside laid c.loop-k.k (omega arith) in
    omega (arith, laid.most)

pub check_record-requires : goal.check_record-requires
check_record-requires c = laid-inside c.requires

pub returns-in_err-check_record : goal.returns-in_err-check_record
returns-in_err-check_record c =
    let e : c.from_residual.result ≡ Err c.in_err-check_record.field-0.0 = search rules in
    e
    ∙ pass-refused _ _ _ _ _ _ _ c.loop-k.invariant c.nth_record-r.ensures _ c.begins.ensures _ _ (omega arith)
    (sym c.check_record.ensures ∙ c.in_err-check_record.was)

pub loop-k-preserved : goal.loop-k-preserved
loop-k-preserved c =
    let largest = c.loop-k.largest in
    pass-more _ _ _ _ _ _ _ c.loop-k.invariant c.nth_record-r.ensures _ c.begins.ensures _ (sym c.check_record.ensures ∙ c.in_ok-check_record.was)
    (c.max-largest.ensures ∙ ap (max largest) c.counts_with.ensures)

pub returns : goal.returns
returns c = pass-done _ _ _ _ _ _ _ c.loop-k.invariant (omega arith) (omega arith)
