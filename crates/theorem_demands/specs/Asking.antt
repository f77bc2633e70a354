-- A meaning, asked for record by record: the request that lends a meaning's records as entries, in the order in which they stand, with their digests and
-- their extents one after the other.
--   flat          the numbers of each thing of a list, one after the other
--   entry_of       the entry of a record whose digest begins at one place and whose extents at another
--   request_for    the request for a meaning
--   AskedFor      what holds of it: write takes it, and it asks for that meaning
-- Assumes nothing: these are definitions.
use Rattle.std.specs.Prelude.{ℕ, ◌+◌, ◌≡◌, List, [], ◌∷◌, ◌++◌, length}
use Rattle.segment.specs.declared.entry.Entry.{Entry}
use Rattle.segment.specs.declared.extent.Extent.{Extent}
use Rattle.segment.specs.Meaning.{Row, row_extents, Meaning}
use Rattle.segment.specs.Tidy.{imported_of, domain_of, flags_of, extents_place}
use Rattle.segment.specs.Write.{Request, requested}
use Rattle.theorem_demands.specs.Writing.{Lent, Asks}

unfoldable pub flat : {A : Type 0} → (A → List ℕ) → List A → List ℕ
flat numbers [] = []
flat numbers (x ∷ xs) = numbers x ++ flat numbers xs

-- nine numbers to an entry, three to an extent
abbrev pub entry_numbers : Entry → List ℕ
entry_numbers e =
    e.hash_id ∷ e.digest_start ∷ e.digest_length ∷ e.visibility ∷ e.imported ∷ e.source ∷ e.gone ∷ e.first_extent
    ∷ e.extent_count ∷ []

abbrev pub extent_numbers : Extent → List ℕ
extent_numbers e = e.block ∷ e.offset.0 ∷ e.length ∷ []

-- a record's digest, and the numbers of its extents
abbrev pub digest_of : Row → List ℕ
digest_of r = r.key.digest

abbrev pub row_extent_numbers : Row → List ℕ
row_extent_numbers r = flat extent_numbers (row_extents r)

-- a gone one has 0 for the last two
unfoldable pub entry_of : Row → ℕ → ℕ → Entry
entry_of r digests extents = record {
  hash_id = r.key.hash_id;
  digest_start = digests;
  digest_length = length r.key.digest;
  visibility = r.visibility;
  imported = imported_of r.source;
  source = domain_of r.source;
  gone = flags_of r.state;
  first_extent = extents_place r.state extents;
  extent_count = length (row_extents r);
}

unfoldable pub entries_for : List Row → ℕ → ℕ → List Entry
entries_for [] digests extents = []
entries_for (r ∷ rs) digests extents = entry_of r digests extents ∷ entries_for rs (digests + length r.key.digest) (extents + length (row_extents r))

unfoldable pub request_for : Meaning → Request
request_for m = record {
  heading = m.heading;
  bloom = m.bloom;
  entries = flat entry_numbers (entries_for m.records 0 0);
  digests = flat digest_of m.records;
  extents = flat row_extent_numbers m.records;
}

pub record AskedFor (pairs : List ℕ) (m : Meaning) : Type 0 where
  pub lent : Lent (request_for m)
  pub asks : Asks pairs (request_for m)
  pub means : requested (request_for m) ≡ m
