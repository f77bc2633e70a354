-- The listing piece by piece: it can be far longer than the segment, since records share extents, so that it is made from place to place.
--   Piece      the text at a place, one line or none, and the place after it
--   piece_at    the piece at a place of a meaning's listing
--   filled     whole pieces from a place on, as long as a longest line has room
--   text_from   the listing from a place on
--   pieces_from how many pieces are left
-- Assumes nothing: these are definitions.
use Rattle.std.specs.Prelude.{ℕ, zero, suc, ◌+◌, ◌-◌, Bool, true, false, cond, List, [], ◌∷◌, ◌++◌, ltb, length, drop}
use Rattle.segment.specs.declared.extent.Extent.{Extent}
use Rattle.segment.specs.Meaning.{Row, row_extents, Meaning}
use Rattle.segment.specs.Tidy.{extent_total}
use Rattle.segment.specs.Listing.{records_listed, extents_listed}
use Rattle.list_digits.specs.Digits.{ascii}
use Rattle.list_columns.specs.Listing.{count_line, record_line, extent_line, record_lines, extent_lines, extent_section, listing}
use Rattle.list_place.specs.declared.Place.{Place}
use Rattle.list_place.specs.declared.Place.TheVariants.{RecordCount, RecordLine, ExtentCount, ExtentLine, Done}

pub record Piece : Type 0 where
  pub text : List ℕ
  pub next : Place

abbrev pub piece : List ℕ → Place → Piece
piece text next = record { text = text; next = next }

-- ---- the piece at a place

-- record k is the first of these; behind the last one stands the count of the extents
unfoldable pub record_piece : ℕ → List Row → Piece
record_piece k [] = piece [] ExtentCount
record_piece k (r ∷ rs) = piece (record_line k r) (RecordLine (k + 1))

-- extent j of record k is the first of these; behind the last one stand those of the next record
unfoldable pub extent_piece : ℕ → ℕ → List Extent → Piece
extent_piece k j [] = piece [] (ExtentLine (k + 1) 0)
extent_piece k j (e ∷ es) = piece (extent_line k j e) (ExtentLine k (j + 1))

-- record k is the first of these
unfoldable pub row_piece : ℕ → ℕ → List Row → Piece
row_piece k j [] = piece [] Done
row_piece k j (r ∷ rs) = extent_piece k j (drop j (row_extents r))

unfoldable pub piece_at : Meaning → Place → Piece
piece_at m RecordCount = piece (count_line (ascii "records") (records_listed m)) (RecordLine 0)
piece_at m (RecordLine k) = record_piece k (drop k m.records)
piece_at m ExtentCount = piece (count_line (ascii "extents") (extents_listed m)) (ExtentLine 0 0)
piece_at m (ExtentLine k j) = row_piece k j (drop k m.records)
piece_at m Done = piece [] Done

abbrev pub is_first : Place → Bool
is_first RecordCount = true
is_first (RecordLine k) = false
is_first ExtentCount = false
is_first (ExtentLine k j) = false
is_first Done = false

abbrev pub is_done : Place → Bool
is_done RecordCount = false
is_done (RecordLine k) = false
is_done ExtentCount = false
is_done (ExtentLine k j) = false
is_done Done = true

-- ---- as many pieces as have room

-- the longest line: a record's with a digest of 1,024 bytes, and twenty digits in each number
abbrev pub longest_line : ℕ
longest_line = 2169

-- behind some text
abbrev pub behind : List ℕ → Piece → Piece
behind text p = piece (text ++ p.text) p.next

-- at most n pieces
unfoldable pub filled_with : Meaning → ℕ → Place → ℕ → Piece
filled_with m zero p room = piece [] p
filled_with m (suc n) p room =
    cond (ltb room longest_line) (piece [] p)
    (behind (piece_at m p).text (filled_with m n (piece_at m p).next (room - length (piece_at m p).text)))

-- how many pieces the extents of records are
unfoldable pub pieces_of : List Row → ℕ
pieces_of rs = extent_total rs + length rs + 1

unfoldable pub row_pieces : ℕ → List Row → ℕ
row_pieces j [] = 1
row_pieces j (r ∷ rs) = length (drop j (row_extents r)) + 1 + pieces_of rs

unfoldable pub pieces_from : Meaning → Place → ℕ
pieces_from m RecordCount = length m.records + pieces_of m.records + 3
pieces_from m (RecordLine k) = length (drop k m.records) + pieces_of m.records + 2
pieces_from m ExtentCount = pieces_of m.records + 1
pieces_from m (ExtentLine k j) = row_pieces j (drop k m.records)
pieces_from m Done = 0

unfoldable pub filled : Meaning → Place → ℕ → Piece
filled m p room = filled_with m (pieces_from m p) p room

-- ---- the text from a place on

abbrev pub extent_part : Meaning → List ℕ
extent_part m = count_line (ascii "extents") (extents_listed m) ++ extent_section 0 m.records

-- from extent j of record k on, where record k is the first of these
unfoldable pub extents_from_row : ℕ → ℕ → List Row → List ℕ
extents_from_row k j [] = []
extents_from_row k j (r ∷ rs) = extent_lines k j (drop j (row_extents r)) ++ extent_section (suc k) rs

unfoldable pub text_from : Meaning → Place → List ℕ
text_from m RecordCount = listing m
text_from m (RecordLine k) = record_lines k (drop k m.records) ++ extent_part m
text_from m ExtentCount = extent_part m
text_from m (ExtentLine k j) = extents_from_row k j (drop k m.records)
text_from m Done = []
