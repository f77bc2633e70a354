-- The rules of one entry, as tests of its numbers.
--   marks_kept    7, of its visibility, its imported and gone marks, and its source
--   lists_kept    15, of where its digest starts, its size and the digest bytes there are; its first extent, its count and the extents listed
--   places_kept   9, of its gone mark, its first extent and its extent count
--   total_kept    10, of its extents and the limit of a total
-- Assumes nothing: these are definitions.
use Rattle.std.specs.Prelude.{ℕ, ◌+◌, Bool, cond, ◌&&◌, ◌||◌, List, leb, ltb, eqb}
use Rattle.segment.specs.declared.extent.Extent.{Extent}
use Rattle.segment.specs.Check.{sum_lengths}
use Rattle.segment.specs.Write.{all_listed_fit}

unfoldable pub marks_kept : ℕ → ℕ → ℕ → ℕ → Bool
marks_kept visibility imported gone source =
    leb visibility 1 && (leb imported 1 && (leb gone 1 && (ltb source 4294967296 && (eqb imported 1 || eqb source 0))))

unfoldable pub lists_kept : ℕ → ℕ → ℕ → ℕ → ℕ → ℕ → Bool
lists_kept start size bytes first count listed = leb (start + size) bytes && leb (first + count) listed

unfoldable pub places_kept : ℕ → ℕ → ℕ → Bool
places_kept gone first count = cond (eqb gone 1) (eqb first 0 && eqb count 0) (leb 1 count && ltb count 4294967296)

unfoldable pub total_kept : List Extent → ℕ → Bool
total_kept es limit = all_listed_fit es && leb (sum_lengths es) limit
