-- `check_segment::check_contents` meets its contract: the records, then the largest visibility, then the keys.
use mathlib.Core.Path.{◌≡◌, sym, ◌∙◌}
use native.Mathlib.Omega.{arith}
use borrow.Author.Rules.{rules}
use Rattle.std.specs.Prelude.{Err}
use Rattle.key.proofs.Duplicates.{keys-book}
use Rattle.key_ascending.proofs.Climbing.{none-twice}
use Rattle.check_book.proofs.Book.{records-book}
use Rattle.check_book.proofs.Readable.{met-items}
use Rattle.check_segment.proofs.SegmentOrder.{contents-stop, shown-wrong, all-passed, keys-told}
use Rattle.check_segment.proofs.check_contents.Goals as goal

pub returns-in_err-largest : goal.returns-in_err-largest
returns-in_err-largest c =
    let e : c.from_residual.result ≡ Err c.in_err-largest.field-0.0 = search rules in
    e ∙ contents-stop _ _ _ _ _ (sym c.in_err-largest.was ∙ c.check_records.ensures)

pub returns-then-largest-h : goal.returns-then-largest-h
returns-then-largest-h c = shown-wrong _ _ _ _ c.in_ok-largest.largest (sym c.in_ok-largest.was ∙ c.check_records.ensures) (omega arith)

pub keys_climb-requires : goal.keys_climb-requires
keys_climb-requires c =
    let read = c.records-items.ensures in
    let met = met-items _ _ _ _ c.requires _ ((records-book _ _ _ _ _).0 (all-passed _ _ _ _ c.in_ok-largest.largest (sym c.in_ok-largest.was ∙ c.check_records.ensures))) in
    rw (read.kind, read.bytes) met

pub returns-then-keys_climb : goal.returns-then-keys_climb
returns-then-keys_climb c =
    let read = c.records-items.ensures in
    let climb = rw (read.kind, read.bytes) at (sym c.keys_climb.ensures ∙ c.if-keys_climb.true) in
    keys-told _ _ _ _ c.in_ok-largest.largest (sym c.in_ok-largest.was ∙ c.check_records.ensures) _ (omega arith) (sym ((keys-book _ _ _).1 (none-twice _ _ _ _ climb)))

pub check_keys-requires : goal.check_keys-requires
check_keys-requires c =
    let read = c.records-items.ensures in
    let met = met-items _ _ _ _ c.requires _ ((records-book _ _ _ _ _).0 (all-passed _ _ _ _ c.in_ok-largest.largest (sym c.in_ok-largest.was ∙ c.check_records.ensures))) in
    record { items = rw (read.kind, read.bytes) met; n_le_record_limit = c.requires.layout.few }

pub returns : goal.returns
returns c =
    let read = c.records-items.ensures in
    keys-told _ _ _ _ c.in_ok-largest.largest (sym c.in_ok-largest.was ∙ c.check_records.ensures) _ (omega arith) (rw (read.kind, read.bytes) at c.check_keys.ensures)
