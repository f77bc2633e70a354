-- A record's line said of the record as it was read and of its digest, column group by column group.
-- Assumes nothing: these are definitions.
use Rattle.std.specs.Prelude.{ℕ, Bool, cond, List, ◌++◌}
use Rattle.segment.specs.declared.record.Record.{Record}
use Rattle.segment.specs.declared.extent.Extent.{Extent}
use Rattle.segment.specs.Check.{is_gone}
use Rattle.segment.specs.Meaning.{source_of}
use Rattle.list_digits.specs.Digits.{ascii, decimal, hex}
use Rattle.list_columns.specs.Listing.{cell, last, visibility_word, source_word}

abbrev pub gone_word : Bool → List ℕ
gone_word b = cond b (ascii "gone") (ascii "live")

-- number, hash id, digest
unfoldable pub identity_cells : ℕ → Record → List ℕ → List ℕ
identity_cells k r digest = cell (decimal k) ++ cell (decimal r.hash_id) ++ cell (hex digest)

-- state, visibility, source
unfoldable pub standing_cells : Record → List ℕ
standing_cells r = cell (gone_word (is_gone r)) ++ cell (visibility_word r.visibility) ++ cell (source_word (source_of r.imported r.source))

unfoldable pub record_cells : ℕ → Record → List ℕ → List ℕ
record_cells k r digest = identity_cells k r digest ++ standing_cells r ++ cell (decimal r.total_length) ++ last (decimal r.extent_count)

-- block, offset, length
unfoldable pub slice_cells : Extent → List ℕ
slice_cells e = cell (decimal e.block) ++ cell (decimal e.offset.0) ++ last (decimal e.length)
