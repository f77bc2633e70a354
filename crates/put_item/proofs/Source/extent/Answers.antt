-- `put_item::Source::extent` meets its contract: each kind's own extents.
use native.Mathlib.Omega.{arith}
use Rattle.put_item.proofs.ItemColumns.{record-held, entry-held, record-extent, entry-extent}
use Rattle.put_item.proofs.Source.extent.Goals as goal

pub overflow_mul-j : goal.overflow_mul-j
overflow_mul-j c = let h = record-held _ _ _ _ _ _ _ c.in-Records.is c.requires in omega arith

pub overflow_add-first : goal.overflow_add-first
overflow_add-first c = let h = record-held _ _ _ _ _ _ _ c.in-Records.is c.requires in omega arith

pub at-requires : goal.at-requires
at-requires c = let h = record-held _ _ _ _ _ _ _ c.in-Records.is c.requires in omega arith

pub overflow_add-first-in-Entries : goal.overflow_add-first-in-Entries
overflow_add-first-in-Entries c = let h = entry-held _ _ _ _ _ c.in-Entries.is c.requires in omega arith

pub listed_extent-requires : goal.listed_extent-requires
listed_extent-requires c = let h = entry-held _ _ _ _ _ c.in-Entries.is c.requires in omega arith

pub returns-in-Records : goal.returns-in-Records
returns-in-Records c = record-extent _ _ _ _ _ _ _ _ c.in-Records.is c.at.ensures

pub returns-in-Entries : goal.returns-in-Entries
returns-in-Entries c = entry-extent _ _ _ _ _ _ c.in-Entries.is c.listed_extent.ensures
