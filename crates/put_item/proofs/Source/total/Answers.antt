-- `put_item::Source::total` meets its contract: each kind's own total.
use native.Mathlib.Omega.{arith}
use Rattle.segment.proofs.Shapes.{total_inside}
use Rattle.key.proofs.KeyColumns.{record-stands, entry-stands}
use Rattle.put_item.proofs.ItemColumns.{record-total, listed-held, listed-fits, entry-total}
use Rattle.put_item.proofs.Source.total.Goals as goal

pub begins-at-requires : goal.begins-at-requires
begins-at-requires c = let s = record-stands _ _ _ _ _ _ c.in-Records.is c.requires.counted.item in omega (arith, s.inside)

pub total_length-requires : goal.total_length-requires
total_length-requires c =
    let s = record-stands _ _ _ _ _ _ c.in-Records.is c.requires.counted.item in
    total_inside _ s.shaped c.args.self.items.bytes.now _ (omega (arith, s.inside))

pub at-e-requires : goal.at-e-requires
at-e-requires c = let s = entry-stands _ _ _ _ c.in-Entries.is c.requires.counted.item in omega arith

pub sum_listed-requires : goal.sum_listed-requires
sum_listed-requires c = let l = c.requires in record { count_in_bounds = listed-held _ _ _ _ _ _ c.in-Entries.is c.at-e.ensures l; count_bound = listed-fits _ _ _ _ _ _ c.in-Entries.is c.at-e.ensures l }

pub returns-in-Records : goal.returns-in-Records
returns-in-Records c = record-total _ _ _ _ _ _ _ _ _ c.in-Records.is c.begins-at.ensures c.total_length.ensures

pub returns-in-Entries : goal.returns-in-Entries
returns-in-Entries c = entry-total _ _ _ _ _ _ c.in-Entries.is c.at-e.ensures _ c.sum_listed.ensures
