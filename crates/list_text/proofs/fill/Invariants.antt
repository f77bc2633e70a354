-- `list_text::fill` meets its contract: what is put, and what is filled from the place that it has come to, are the whole.
use Rattle.segment.specs.Format.{v3}
use Rattle.segment.specs.Meaning.{meaning_of}
use Rattle.list_place.specs.Pieces.{pieces_from}
use Rattle.list_text.proofs.Fills.{Filling}
use Rattle.list_text.proofs.fill.Given as goal

abbrev pub invariant-loop-text : goal.invariant-loop-text
invariant-loop-text l = Filling (meaning_of v3 l.seg) l.initial.next l.initial.text l.next l.text

abbrev pub decreases-loop-text : goal.decreases-loop-text
decreases-loop-text l = pieces_from (meaning_of v3 l.seg) l.next
