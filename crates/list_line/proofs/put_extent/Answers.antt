-- `list_line::put_extent` meets its contract: past the records, past the record's extents, or the extent's line.
use native.Mathlib.Omega.{arith}
use Rattle.check_book.proofs.Rows.{record-known}
use Rattle.list_line.proofs.LinesPut.{extents-done, extent-past, extent-put}
use Rattle.list_line.proofs.put_extent.Goals as goal

pub returns-then-h-k : goal.returns-then-h-k
returns-then-h-k c = extents-done _ _ _ _ _ _ c.if-h-k.true c.requires.room

pub returns-then-r-j : goal.returns-then-r-j
returns-then-r-j c = extent-past _ _ _ _ _ _ c.requires.readable c.if-h-k.false _ c.nth_record-r.ensures c.if-r-j.true c.requires.room

pub overflow_add-at : goal.overflow_add-at
overflow_add-at c = omega (arith, c.if-r-j.false, (record-known _ _ _ c.requires.readable _ c.if-h-k.false _ c.nth_record-r.ensures).extents)

pub at-requires : goal.at-requires
at-requires c = omega (arith, c.if-r-j.false, (record-known _ _ _ c.requires.readable _ c.if-h-k.false _ c.nth_record-r.ensures).extents)

pub returns : goal.returns
returns c = extent-put _ _ _ _ _ _ c.requires.readable c.if-h-k.false _ c.nth_record-r.ensures _ _ c.if-r-j.false c.at.ensures c.put_extent.ensures
