-- each turn puts what has room, and fewer pieces are left
use mathlib.Core.Path.{◌≡◌}
use lib.ListN.{length}
use Rattle.segment.specs.Format.{v3}
use Rattle.segment.specs.Meaning.{meaning_of}
use Rattle.list_place.specs.Pieces.{pieces_from}
use Rattle.listing.proofs.list.Given as goal

abbrev pub invariant-loop-place : goal.invariant-loop-place
invariant-loop-place g l = length l.out ≡ length l.initial.out

abbrev pub decreases-loop-place : goal.decreases-loop-place
decreases-loop-place g l = pieces_from (meaning_of v3 l.input) l.place
