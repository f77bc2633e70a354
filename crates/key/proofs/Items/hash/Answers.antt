-- `key::Items::hash` meets its contract: each kind's own column.
use native.Mathlib.Nat.{add-zero}
use native.Mathlib.Omega.{arith}
use Rattle.segment.proofs.Shapes.{shaped-least}
use Rattle.key.proofs.KeyColumns.{record-stands, entry-stands, record-hash, entry-hash}
use Rattle.key.proofs.Items.hash.Goals as goal

pub begins-at-requires : goal.begins-at-requires
begins-at-requires c = let s = record-stands _ _ _ _ _ _ c.in-Records.is c.requires in omega (arith, s.inside)

pub read-requires : goal.read-requires
read-requires c = let s = record-stands _ _ _ _ _ _ c.in-Records.is c.requires in omega (arith, s.inside, shaped-least _ s.shaped, c.begins-at.ensures)

pub at-requires : goal.at-requires
at-requires c = let s = entry-stands _ _ _ _ (cc) c.requires in omega arith

pub returns-in-Records : goal.returns-in-Records
returns-in-Records c = let column = rw add-zero at c.read.ensures in record-hash _ _ _ _ _ _ c.in-Records.is c.begins-at.ensures (cc)

pub returns-in-Entries : goal.returns-in-Entries
returns-in-Entries c = entry-hash _ _ _ _ (cc) c.at.ensures
