-- docs/SERVICES.md, "The listing": two sections, each after its count; a refused input gives one line; a longer input gives `too long`.
--   record_line    number, hash id, digest, state, visibility, source or `-`, total, extent count
--   extent_line    record, extent, block, offset, length
--   listing       the whole, as a function of the meaning
--   listed        what is written of a table and a segment
--   written       what the program writes of its input
-- Assumes nothing: these are definitions.
use Rattle.std.specs.Prelude.{ℕ, suc, cond, List, [], ◌∷◌, ◌++◌, ltb, eqb, length, None, Some}
use Rattle.answer.specs.declared.Refusal.{Refusal}
use Rattle.answer.specs.Rules.{after}
use Rattle.answer.specs.Answers.{number_of, place_of, Source}
use Rattle.segment.specs.declared.extent.Extent.{Extent}
use Rattle.segment.specs.Format.{v3}
use Rattle.segment.specs.Check.{sum_lengths, checked}
use Rattle.segment.specs.Meaning.{State, gone, live, Row, row_extents, Meaning, meaning_of}
use Rattle.segment.specs.Listing.{records_listed, extents_listed}
use Rattle.list_digits.specs.Digits.{ascii, decimal, hex}

-- ---- columns

abbrev pub blank : ℕ
blank = 32

abbrev pub newline : ℕ
newline = 10

-- a word and a blank; the last word of a line
abbrev pub cell : List ℕ → List ℕ
cell word = word ++ (blank ∷ [])

abbrev pub last : List ℕ → List ℕ
last word = word ++ (newline ∷ [])

abbrev pub state_word : State → List ℕ
state_word gone = ascii "gone"
state_word (live es) = ascii "live"

abbrev pub visibility_word : ℕ → List ℕ
visibility_word visibility = cond (eqb visibility 0) (ascii "internal") (ascii "published")

abbrev pub source_word : Source → List ℕ
source_word None = ascii "-"
source_word (Some d) = decimal d

-- ---- lines

unfoldable pub count_line : List ℕ → ℕ → List ℕ
count_line word n = cell word ++ last (decimal n)

unfoldable pub record_line : ℕ → Row → List ℕ
record_line k r =
    cell (decimal k)
    ++ cell (decimal r.key.hash_id)
    ++ cell (hex r.key.digest)
    ++ cell (state_word r.state)
    ++ cell (visibility_word r.visibility)
    ++ cell (source_word r.source)
    ++ cell (decimal (sum_lengths (row_extents r)))
    ++ last (decimal (length (row_extents r)))

unfoldable pub extent_line : ℕ → ℕ → Extent → List ℕ
extent_line k j e =
    cell (decimal k)
    ++ cell (decimal j)
    ++ cell (decimal e.block)
    ++ cell (decimal e.offset.0)
    ++ last (decimal e.length)

unfoldable pub refusal_line : Refusal → List ℕ
refusal_line r = cell (ascii "refused") ++ cell (decimal (number_of r)) ++ cell (ascii "at") ++ last (decimal (place_of r))

-- ---- the two sections

-- records from number k on
unfoldable pub record_lines : ℕ → List Row → List ℕ
record_lines k [] = []
record_lines k (r ∷ rs) = record_line k r ++ record_lines (suc k) rs

-- the extents of record k from number j on
unfoldable pub extent_lines : ℕ → ℕ → List Extent → List ℕ
extent_lines k j [] = []
extent_lines k j (e ∷ es) = extent_line k j e ++ extent_lines k (suc j) es

-- the extents of records from number k on
unfoldable pub extent_section : ℕ → List Row → List ℕ
extent_section k [] = []
extent_section k (r ∷ rs) = extent_lines k 0 (row_extents r) ++ extent_section (suc k) rs

-- ---- the whole

unfoldable pub listing : Meaning → List ℕ
listing m =
    count_line (ascii "records") (records_listed m)
    ++ (record_lines 0 m.records
    ++ (count_line (ascii "extents") (extents_listed m)
    ++ extent_section 0 m.records))

unfoldable pub listed : List ℕ → List ℕ → List ℕ
listed pairs s = after refusal_line (checked pairs s) (listing (meaning_of v3 s))

-- the program's table, 1 → 32 and 7 → 4, and the most that it reads
abbrev pub table_listed : List ℕ
table_listed = 1 ∷ 32 ∷ 7 ∷ 4 ∷ []

abbrev pub most_listed : ℕ
most_listed = 65536

unfoldable pub written : List ℕ → List ℕ
written s = cond (ltb most_listed (length s)) (last (ascii "too long")) (listed table_listed s)
