-- What the functions of this crate answer.
--   PutsPiece  a piece stands behind what a text had, and the answer says where the listing goes on
-- Assumes nothing: these are definitions.
use Rattle.std.specs.Prelude.{◌≡◌}
use Rattle.list_digits.specs.declared.Text.{Text}
use Rattle.list_digits.specs.Digits.{Puts}
use Rattle.list_place.specs.declared.Place.{Place}
use Rattle.list_place.specs.Pieces.{Piece, longest_line}

pub record PutsPiece (p : Piece) (old new : Text) (answer : Place) : Type 0 where
  pub put : Puts longest_line old p.text new
  pub next : answer ≡ p.next
