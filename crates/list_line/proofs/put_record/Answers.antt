-- `list_line::put_record` meets its contract: past the records, or the record's line.
use mathlib.Core.Path.{refl}
use native.Mathlib.Omega.{arith}
use Rattle.check_book.proofs.Rows.{record-known}
use Rattle.list_line.proofs.ListedRows.{digest-short}
use Rattle.list_line.proofs.LinesPut.{record-past, record-put}
use Rattle.list_line.proofs.put_record.Goals as goal

pub returns-then-h-k : goal.returns-then-h-k
returns-then-h-k c = record-past _ _ _ _ _ c.if-h-k.true c.requires.room

pub overflow_add-stop : goal.overflow_add-stop
overflow_add-stop c = omega (arith, (record-known _ _ _ c.requires.readable _ c.if-h-k.false _ c.nth_record-r.ensures).digest)

pub slice_bounds-put_record-end : goal.slice_bounds-put_record-end
slice_bounds-put_record-end c = omega (arith, (record-known _ _ _ c.requires.readable _ c.if-h-k.false _ c.nth_record-r.ensures).digest)

pub put_record-requires-clause-digest_len_bound : goal.put_record-requires-clause-digest_len_bound
put_record-requires-clause-digest_len_bound c = digest-short _ _ _ (record-known _ _ _ c.requires.readable _ c.if-h-k.false _ c.nth_record-r.ensures).short

pub returns : goal.returns
returns c = record-put _ _ _ _ _ c.requires.readable c.if-h-k.false _ c.nth_record-r.ensures _ _ refl c.put_record.ensures
