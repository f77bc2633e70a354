-- `key::Items::place` meets its contract: each kind's own place.
use native.Mathlib.Omega.{arith}
use Rattle.key.proofs.KeyColumns.{record-place, record-begins, entry-place}
use Rattle.key.proofs.Items.place.Goals as goal

pub begins-requires : goal.begins-requires
begins-requires c = let l = record-begins _ _ _ _ c.in-Records.is c.requires in omega arith

pub returns-in-Records : goal.returns-in-Records
returns-in-Records c = record-place _ _ _ _ c.in-Records.is c.begins.ensures

pub returns-in-Entries : goal.returns-in-Entries
returns-in-Entries c = entry-place _ _ c.in-Entries.is c.place_of.ensures
