-- `key::Items::digest_span` meets its contract: each kind's own column.
use native.Mathlib.Omega.{arith}
use Rattle.key.proofs.KeyColumns.{record-stands, record-fields, entry-stands, record-digest, entry-digest}
use Rattle.key.proofs.Items.digest_span.Goals as goal

pub begins-requires : goal.begins-requires
begins-requires c = let s = record-stands _ _ _ _ _ _ c.in-Records.is c.requires in omega (arith, s.inside)

pub record_span-requires : goal.record_span-requires
record_span-requires c = record-fields _ _ _ _ _ _ _ c.in-Records.is c.requires (omega (arith, c.begins.ensures))

pub at-requires : goal.at-requires
at-requires c = let s = entry-stands _ _ _ _ (cc) c.requires in omega arith

pub returns-in-Records : goal.returns-in-Records
returns-in-Records c = record-digest _ _ _ _ _ _ c.in-Records.is c.begins.ensures c.record_span.ensures

pub returns-in-Entries : goal.returns-in-Entries
returns-in-Entries c = entry-digest _ _ _ _ (cc) c.at.ensures c.entry_span.ensures
