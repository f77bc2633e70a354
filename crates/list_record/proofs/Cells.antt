-- The groups of a record's cells make its line.
-- Assumes nothing.
use Prim.Native.Nat.{ℕ}
use mathlib.Core.Path.{◌≡◌, sym}
use mathlib.Core.List.{List, ◌++◌, append_assoc}
use Rattle.segment.specs.declared.record.Record.{Record}
use Rattle.list_digits.specs.Digits.{decimal, hex}
use Rattle.list_columns.specs.Listing.{cell, last}
use Rattle.list_columns.specs.Columns.{identity_cells, standing_cells, record_cells}

pub record-line : (k : ℕ) (r : Record) (digest : List ℕ)
    → cell (decimal k) ++ cell (decimal r.hash_id) ++ cell (hex digest)
    ++ standing_cells r
    ++ (cell (decimal r.total_length) ++ last (decimal r.extent_count))
    ≡ record_cells k r digest
unfolding record_cells identity_cells
record-line k r digest = sym (append_assoc (identity_cells k r digest ++ standing_cells r) (cell (decimal r.total_length)) (last (decimal r.extent_count)))
