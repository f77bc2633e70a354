-- The same of a source: items as they are lent, and the list of their extents.
--   entry_in      an item's nine numbers
--   extent_in, extents_in   an extent of an item's source, and some of them, from a first one on
--   total_in      an item's total length
--   row_in, rows_in   an item's row in the meaning, and those of some items
--   HeldIn        some extents lie in their source
--   CountedIn, LineIn, LinesIn   what is known of an item whose numbers are counted, of one that may be written, and of some of these
--   measured_in   what items come to
-- Assumes nothing: these are definitions.
use Rattle.std.specs.Prelude.{ℕ, List}
use Rattle.segment.specs.declared.entry.Entry.{Entry}
use Rattle.segment.specs.declared.extent.Extent.{Extent}
use Rattle.segment.specs.Meaning.{Row}
use Rattle.put_item.specs.declared.Sizes.{Sizes}
use Rattle.put_item.specs.declared.Source.{Source}
use Rattle.put_item.specs.Lines.{item_entry, item_extent, item_extents, Held, item_total, item_row, item_rows, Counted, Line, Lines, measured}

abbrev pub entry_in : Source → ℕ → Entry
entry_in source k = item_entry source.items.kind source.items.bytes.now source.items.list.now k

abbrev pub extent_in : Source → ℕ → ℕ → Extent
extent_in source first j = item_extent source.items.kind source.items.bytes.now source.extents.now first j

abbrev pub extents_in : Source → ℕ → ℕ → List Extent
extents_in source first n = item_extents source.items.kind source.items.bytes.now source.extents.now first n

abbrev pub total_in : Source → ℕ → ℕ
total_in source k = item_total source.items.kind source.items.bytes.now source.items.list.now source.extents.now k

abbrev pub row_in : Source → ℕ → Row
row_in source k = item_row source.items.kind source.items.bytes.now source.items.list.now source.extents.now k

abbrev pub rows_in : Source → List ℕ → List Row
rows_in source numbers = item_rows source.items.kind source.items.bytes.now source.items.list.now source.extents.now numbers

abbrev pub HeldIn : Source → ℕ → ℕ → Type 0
HeldIn source first n = Held source.items.kind source.items.bytes.now source.extents.now first n

abbrev pub CountedIn : Source → ℕ → Type 0
CountedIn source k = Counted source.items.kind source.items.bytes.now source.items.list.now k

abbrev pub LineIn : Source → ℕ → Type 0
LineIn source k = Line source.items.kind source.items.bytes.now source.items.list.now source.extents.now k

abbrev pub LinesIn : Source → List ℕ → Type 0
LinesIn source numbers = Lines source.items.kind source.items.bytes.now source.items.list.now source.extents.now numbers

abbrev pub measured_in : Source → List ℕ → Sizes
measured_in source numbers = measured source.items.kind source.items.bytes.now source.items.list.now numbers
