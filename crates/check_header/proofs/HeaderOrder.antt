-- How the header's tables stand in order, and that a header which passes them lays the sections out.
-- Assumes nothing.
use Prim.Native.Nat.{ℕ, ◌≤◌}
use mathlib.Core.Path.{◌≡◌}
use mathlib.Core.List.{List}
use lib.ListN.{length}
use Rattle.answer.specs.Rules.{accepted}
use Rattle.answer.proofs.Order.{then-accepted}
use Rattle.segment.specs.declared.header.Header.{Header}
use Rattle.segment.specs.declared.shape.Shape.{Shape}
use Rattle.segment.specs.Shapes.{Shaped}
use Rattle.segment.specs.Check.{head_verdict, layout_verdict}
use Rattle.check_book.specs.Readable.{Laid}
use Rattle.check_book.proofs.TablesHeader.{layout-book}
use Rattle.check_header.specs.HeaderRules.{header_rules}

pub laid_of : (sh : Shape) → Shaped sh → (s : List ℕ) (h : Header) → header_rules sh h (length s) ≡ accepted → length s ≤ 1073741824 → Laid sh s h
unfolding header_rules
laid_of sh w s h e most = record { shaped = w; layout = (layout-book sh w s h).0 ((then-accepted (head_verdict sh h) (layout_verdict sh h (length s))).0 e).1; most = most }
