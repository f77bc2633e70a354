-- Items that are put in order and written.
--   AllLines    each of n items may be written
--   items_form   the tidy form of n items, with a heading and bloom bytes
--   AllLinesIn, form_in   the same of a source, and of its form in a frame
-- Assumes nothing: these are definitions.
use Rattle.std.specs.Prelude.{ℕ, ◌<◌, List}
use Rattle.segment.specs.declared.header.Heading.{Heading}
use Rattle.segment.specs.declared.shape.Shape.{Shape}
use Rattle.lists.specs.Lists.{count_from}
use Rattle.segment.specs.Tidy.{tidy_form}
use Rattle.key.specs.declared.Kind.{Kind}
use Rattle.put_item.specs.declared.Source.{Source}
use Rattle.put_item.specs.Lines.{item_rows, Line}
use Rattle.put_form.specs.declared.Frame.{Frame}

pub record AllLines (kind : Kind) (bytes list extents : List ℕ) (n : ℕ) : Type 0 where
  pub each : (k : ℕ) → k < n → Line kind bytes list extents k

unfoldable pub items_form : Shape → Heading → List ℕ → Kind → List ℕ → List ℕ → List ℕ → ℕ → List ℕ
items_form sh t bloom kind bytes list extents n =
    tidy_form sh (record { heading = t; bloom = bloom; records = item_rows kind bytes list extents (count_from 0 n) })

abbrev pub AllLinesIn : Source → ℕ → Type 0
AllLinesIn source n = AllLines source.items.kind source.items.bytes.now source.items.list.now source.extents.now n

abbrev pub form_in : Frame → Source → ℕ → List ℕ
form_in frame source n =
    items_form frame.shape frame.heading frame.bloom.now source.items.kind source.items.bytes.now source.items.list.now source.extents.now n
