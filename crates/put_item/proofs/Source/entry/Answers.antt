-- `put_item::Source::entry` meets its contract: each kind's own numbers.
use native.Mathlib.Omega.{arith}
use Rattle.key.proofs.KeyColumns.{record-stands, entry-stands}
use Rattle.put_item.proofs.ItemColumns.{record-entry, entry-entry}
use Rattle.put_item.proofs.Source.entry.Goals as goal

pub nth_record-requires : goal.nth_record-requires
nth_record-requires c =
    let s = record-stands _ _ _ _ _ _ c.in-Records.is c.requires in
    record { shaped = s.shaped; record_size_in_bounds = s.inside }

pub at-requires : goal.at-requires
at-requires c = let s = entry-stands _ _ _ _ c.in-Entries.is c.requires in omega arith

pub returns-in-Records : goal.returns-in-Records
returns-in-Records c = record-entry _ _ _ _ _ _ _ _ c.in-Records.is c.nth_record.ensures c.entry_of_record.ensures

pub returns-in-Entries : goal.returns-in-Entries
returns-in-Entries c = entry-entry _ _ _ _ _ c.in-Entries.is c.at.ensures
