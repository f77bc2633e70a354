-- What is put into an output, and what is answered.
--   Stopped    pieces stand at a place of the output; the answer says where the listing goes on, and where in the output
-- Assumes nothing: these are definitions.
use Rattle.std.specs.Prelude.{ℕ, ◌≡◌, List}
use Rattle.list_digits.specs.Digits.{Appended}
use Rattle.list_place.specs.Pieces.{Piece}
use Rattle.list_text.specs.declared.Stop.{Stop}

pub record Stopped (most : ℕ) (p : Piece) (before : List ℕ) (at : ℕ) (after : List ℕ) (stop : Stop) : Type 0 where
  pub put : Appended most before at p.text after stop.end
  pub next : stop.next ≡ p.next
