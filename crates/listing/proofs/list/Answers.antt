-- `listing::list` meets its contract: each turn puts what has room, and fewer pieces are left.
use Prim.Native.Nat.{ℕ, ◌≤◌, ◌<◌}
use mathlib.Core.Path.{◌≡◌, sym, subst, ◌∙◌}
use mathlib.Core.Bool.{Bool, false}
use mathlib.Core.List.{List}
use native.Mathlib.Omega.{arith}
use Rattle.segment.specs.Format.{v3}
use Rattle.segment.specs.Meaning.{meaning_of}
use Rattle.list_digits.proofs.TextLaws.{stop-within}
use Rattle.list_place.specs.declared.Place.{Place}
use Rattle.list_place.specs.Pieces.{is_done, longest_line, pieces_from}
use Rattle.list_input.specs.Parts.{part_at}
use Rattle.list_input.proofs.PartLaws.{part-on}
use Rattle.listing.proofs.list.Goals as goal

fewer : (s : List ℕ) (place : Place) (room : ℕ) (next : Place) (b : Bool) → b ≡ is_done place → b ≡ false → longest_line ≤ room → next ≡ (part_at s place room).next
    → pieces_from (meaning_of v3 s) next < pieces_from (meaning_of v3 s) place
fewer s place room next b e f h n =
    subst (λ (p : Place). pieces_from (meaning_of v3 s) p < pieces_from (meaning_of v3 s) place) (sym n) (part-on s place room h (sym e ∙ f))

pub slice_bounds-write_all-end : goal.slice_bounds-write_all-end
slice_bounds-write_all-end g c = stop-within c.more-stop.ensures.put.put

pub loop-place-smaller : goal.loop-place-smaller
loop-place-smaller g c =
    fewer _ _ _ _ _ c.is_done.ensures c.loop-place-test.true (omega (arith, c.loop-place.invariant, c.requires)) c.more-stop.ensures.put.next
