-- `look_up::find` meets its contract: no record below k has the key.
use native.Mathlib.Omega.{arith}
use Rattle.check_book.specs.Readable.{Readable}
use Rattle.check_book.proofs.Readable.{record-inside, items, read}
use Rattle.look_up.proofs.Finding.{search-start, search-more, search-hit, search-done}
use Rattle.look_up.proofs.find.Goals as goal

pub of-h-requires : goal.of-h-requires
of-h-requires c = omega (arith, c.requires.long)

pub loop-k-init : goal.loop-k-init
loop-k-init c = search-start _ _ _

pub key_is-requires : goal.key_is-requires
key_is-requires c =
    let known : Readable c.args.sh c.args.seg.now c.of-h.result = read _ _ _ c.of-h.ensures c.requires in
    let lent = c.records-items.ensures in
    rw (lent.kind, lent.bytes) ((items _ _ _ _ known).each _ (omega arith))

pub nth_record-requires : goal.nth_record-requires
nth_record-requires c =
    let known : Readable c.args.sh c.args.seg.now c.of-h.result = read _ _ _ c.of-h.ensures c.requires in
    let laid = (known).laid in
    record { shaped = laid.shaped; record_size_in_bounds = record-inside laid c.loop-k.k (omega arith) }

pub returns-then-key_is : goal.returns-then-key_is
returns-then-key_is c =
    let lent = c.records-items.ensures in
    search-hit _ _ _ _ _ _ c.of-h.ensures _ (rw (lent.kind, lent.bytes) at c.key_is.ensures) _ _ c.loop-k.invariant c.if-key_is.true (omega arith)
    c.nth_record.ensures c.found.ensures

pub loop-k-preserved : goal.loop-k-preserved
loop-k-preserved c =
    let lent = c.records-items.ensures in
    search-more _ _ _ _ _ _ c.of-h.ensures _ (rw (lent.kind, lent.bytes) at c.key_is.ensures) c.loop-k.invariant c.if-key_is.false

pub returns : goal.returns
returns c = search-done _ _ _ _ _ c.of-h.ensures c.loop-k.invariant (omega arith) (omega arith)
