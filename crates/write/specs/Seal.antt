-- What write is lent, as one request.
-- Assumes nothing: these are definitions.
use Rattle.std.specs.Prelude.{ℕ, List}
use Rattle.segment.specs.declared.header.Heading.{Heading}
use Rattle.segment.specs.Write.{Request}

abbrev pub asked : Heading → List ℕ → List ℕ → List ℕ → List ℕ → Request
asked t bloom entries digests extents = record { heading = t; bloom = bloom; entries = entries; digests = digests; extents = extents }
