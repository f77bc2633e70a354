-- What is written of an input, a part at a time: the text can be far longer than the room that is lent for it.
--   part_at     what is put into some room from a place on, and where the text goes on
--   left_at     what is left to write from a place on; at the first place it is `written`
--   Part       what a call answers and leaves
--   calls      what calls put, one after another, each into its own room, and where they have come to
-- Assumes nothing: these are definitions.
use Rattle.std.specs.Prelude.{ℕ, ◌≤◌, ◌≡◌, cond, List, [], ◌∷◌, ◌++◌, ltb, length, take}
use Rattle.answer.specs.declared.Refusal.{Refusal}
use Rattle.answer.specs.Rules.{after}
use Rattle.segment.specs.Format.{v3}
use Rattle.segment.specs.Check.{checked}
use Rattle.segment.specs.Meaning.{meaning_of}
use Rattle.list_digits.specs.Digits.{ascii}
use Rattle.list_columns.specs.Listing.{last, refusal_line, table_listed, most_listed, written}
use Rattle.list_place.specs.declared.Place.{Place}
use Rattle.list_place.specs.declared.Place.TheVariants.{Done}
use Rattle.list_place.specs.Pieces.{Piece, piece, is_first, longest_line, behind, filled, text_from}
use Rattle.list_text.specs.declared.Stop.{Stop}
use Rattle.list_text.specs.Stopped.{Stopped}

-- ---- an input that is not listed has one line, at the first place

abbrev pub only : List ℕ → Place → List ℕ
only line p = cond (is_first p) line []

unfoldable pub only_piece : List ℕ → Place → Piece
only_piece line p = piece (only line p) Done

abbrev pub refused_piece : Place → Refusal → Piece
refused_piece p r = only_piece (refusal_line r) p

-- ---- a part, and what is left

-- nothing, where there is no room for a longest line
unfoldable pub part_at : List ℕ → Place → ℕ → Piece
part_at s p room =
    cond (ltb room longest_line) (piece [] p)
    (cond (ltb most_listed (length s)) (only_piece (last (ascii "too long")) p)
    (after (refused_piece p) (checked table_listed s) (filled (meaning_of v3 s) p room)))

abbrev pub no_text : Refusal → List ℕ
no_text r = []

-- behind the first place
abbrev pub rest_at : List ℕ → Place → List ℕ
rest_at s p = cond (ltb most_listed (length s)) [] (after no_text (checked table_listed s) (text_from (meaning_of v3 s) p))

unfoldable pub left_at : List ℕ → Place → List ℕ
left_at s p = cond (is_first p) (written s) (rest_at s p)

-- the part stands at the front, and every byte behind it is as it was; what was left is the part and what is left now
pub record Part (s : List ℕ) (p : Place) (before after : List ℕ) (stop : Stop) : Type 0 where
  pub put : Stopped (length before) (part_at s p (length before)) before 0 after stop
  pub left : left_at s p ≡ take stop.end after ++ left_at s stop.next

-- ---- calls

-- there is room for a longest line
abbrev pub Wide : ℕ → Type 0
Wide room = longest_line ≤ room

unfoldable pub calls : List ℕ → List ℕ → Place → Piece
calls s [] p = piece [] p
calls s (room ∷ rooms) p = behind (part_at s p room).text (calls s rooms (part_at s p room).next)
