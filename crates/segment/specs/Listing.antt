-- docs/SERVICES.md, "The listing": its two counts are sums over the meaning.
-- Assumes nothing: these are definitions.
use Rattle.std.specs.Prelude.{ℕ, length}
use Rattle.segment.specs.Meaning.{Meaning}
use Rattle.segment.specs.Tidy.{extent_total}

-- how many records
abbrev pub records_listed : Meaning → ℕ
records_listed m = length m.records

-- how many extents: the sum of the records' counts
abbrev pub extents_listed : Meaning → ℕ
extents_listed m = extent_total m.records
