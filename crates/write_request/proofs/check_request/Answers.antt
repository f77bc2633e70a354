-- `write_request::check_request` meets its contract: the count, the bloom bytes, the entries, and then their keys.
use mathlib.Core.Path.{sym, ◌∙◌, ◌≡◌}
use borrow.Author.Rules.{rules}
use Rattle.std.specs.Prelude.{Err}
use Rattle.key.proofs.Duplicates.{keys-book}
use Rattle.key_ascending.proofs.Climbing.{none-twice}
use Rattle.write_book.proofs.RequestBook.{entries-book, entries-stand}
use Rattle.write_request.proofs.RequestOrder.{too_many, bloom-odd, entries-stop, keys-told}
use Rattle.write_request.proofs.check_request.Goals as goal

pub returns-then-n-gt-MOST : goal.returns-then-n-gt-MOST
returns-then-n-gt-MOST c = too_many _ _ _ _ _ _ c.if-n-gt-MOST.true

pub returns-then-bloom-ne0 : goal.returns-then-bloom-ne0
returns-then-bloom-ne0 c = bloom-odd _ _ _ _ _ _ c.if-n-gt-MOST.false c.if-bloom-ne0.true

pub returns-in_err-check_entries : goal.returns-in_err-check_entries
returns-in_err-check_entries c =
    let e : c.from_residual.result ≡ Err c.in_err-check_entries.field-0.0 = search rules in
    e ∙ entries-stop _ _ _ _ _ _ c.if-n-gt-MOST.false c.if-bloom-ne0.false _ (sym c.check_entries.ensures ∙ c.in_err-check_entries.was)

pub keys_climb-requires : goal.keys_climb-requires
keys_climb-requires c =
    let read = c.entries-items.ensures in
    let stand = entries-stand _ _ _ _ _ ((entries-book _ _ _ _ _ _).0 (sym c.check_entries.ensures ∙ c.in_ok-check_entries.was)) in
    rw (read.kind, read.bytes, read.list) stand

pub returns-then-keys_climb : goal.returns-then-keys_climb
returns-then-keys_climb c =
    let read = c.entries-items.ensures in
    let climb = rw (read.kind, read.bytes, read.list) at (sym c.keys_climb.ensures ∙ c.if-keys_climb.true) in
    keys-told _ _ _ _ _ _ c.if-n-gt-MOST.false c.if-bloom-ne0.false (sym c.check_entries.ensures ∙ c.in_ok-check_entries.was)
    (sym ((keys-book _ _ _).1 (none-twice _ _ _ _ climb)))

pub check_keys-requires : goal.check_keys-requires
check_keys-requires c =
    let read = c.entries-items.ensures in
    let stand = entries-stand _ _ _ _ _ ((entries-book _ _ _ _ _ _).0 (sym c.check_entries.ensures ∙ c.in_ok-check_entries.was)) in
    record { items = rw (read.kind, read.bytes, read.list) stand; n_le_record_limit = c.if-n-gt-MOST.false }

pub returns : goal.returns
returns c =
    let read = c.entries-items.ensures in
    keys-told _ _ _ _ _ _ c.if-n-gt-MOST.false c.if-bloom-ne0.false (sym c.check_entries.ensures ∙ c.in_ok-check_entries.was)
    (rw (read.kind, read.bytes, read.list) at c.check_keys.ensures)
