-- docs/SERVICES.md, "The three demands", 2 on write:
-- what it writes is accepted under the same table and, read back, gives what was asked for. And each refusal of write: 14, 16
-- for the entry count, 51, then entries by number and within one 7, 15, 8, 9, 10; then 12, 16 for size, 13.
--   Lent           what the types of the lent parts say of their numbers
--   Asks           nothing is refused before the size
--   written_bytes   the tidy form of what is asked for
--   Writes         write does not refuse
--   EntryGiven, RequestGiven, WriteGiven   when it gives a refusal
-- Assumes nothing: these are definitions.
use Rattle.std.specs.Prelude.{ℕ, ◌%◌, ◌≤◌, ◌<◌, ◌≡◌, true, false, ◌⊎◌, List, length, get_or}
use Rattle.numbers.specs.Numbers.{Bytes}
use Rattle.answer.specs.declared.Refusal.{Refusal}
use Rattle.answer.specs.declared.Rule.TheVariants.{
  LayoutBloom,
  Record as RecordWrong,
  Digest,
  Extents,
  Total,
  Duplicate,
  Table,
  List as ListEnd,
  Large,
}
use Rattle.answer.specs.Answers.{refusal}
use Rattle.segment.specs.declared.entry.Entry.{Entry}
use Rattle.segment.specs.Format.{v3, file_limit, record_limit}
use Rattle.table.specs.Table.{good_table, allows}
use Rattle.segment.specs.Keys.{FirstTwice}
use Rattle.segment.specs.Tidy.{tidy_form}
use Rattle.segment.specs.Write.{Request, entry_count, entry_no, entry_extents, entry_key, requested}
use Rattle.form_laws.specs.Form.{HeadingWritable}
use Rattle.segment.specs.Asked.{MarksAsked, ListsAsked, PlacesAsked, TotalAsked, Asked, RequestAsked}
use Rattle.theorem_demands.specs.Tidying.{SizeGiven}

-- ---- what is lent

-- numbers of 64 bits
abbrev pub Wide : List ℕ → Type 0
Wide xs = (i : ℕ) → get_or xs i 0 < 18446744073709551616

pub record Lent (q : Request) : Type 0 where
  pub heading : HeadingWritable q.heading
  pub bloom : Bytes q.bloom
  pub digests : Bytes q.digests
  pub extents : Wide q.extents

-- ---- when write writes

-- the table is good, and the request keeps every rule under it
pub record Asks (pairs : List ℕ) (q : Request) : Type 0 where
  pub table : good_table pairs ≡ true
  pub asked : RequestAsked v3 pairs (length q.bloom) q.entries q.digests q.extents

abbrev pub written_bytes : Request → List ℕ
written_bytes q = tidy_form v3 (requested q)

-- the result is within the limit, and the output has room for it
pub record Writes (pairs : List ℕ) (q : Request) (room : ℕ) : Type 0 where
  pub asks : Asks pairs q
  pub small : length (written_bytes q) ≤ file_limit
  pub fits : length (written_bytes q) ≤ room

-- ---- what is kept before a rule's turn comes

-- 14, 16 for the entry count, and 51
pub record UpToBloom (pairs : List ℕ) (q : Request) : Type 0 where
  pub table : good_table pairs ≡ true
  pub few : entry_count q.entries ≤ record_limit
  pub bloom : length q.bloom % 8 ≡ 0

-- entry k keeps 7, 15, 8, 9 and 10
abbrev pub EntryAsked : List ℕ → Request → ℕ → Type 0
EntryAsked pairs q k = Asked v3 pairs q.digests q.extents (entry_no q.entries k)

-- and so does every entry
pub record UpToEntries (pairs : List ℕ) (q : Request) : Type 0 where
  pub before : UpToBloom pairs q
  pub each : (j : ℕ) → j < entry_count q.entries → EntryAsked pairs q j

-- entry k's turn comes: every entry before it does
pub record EntryReached (pairs : List ℕ) (q : Request) (k : ℕ) : Type 0 where
  pub before : UpToBloom pairs q
  pub within : k < entry_count q.entries
  pub earlier : (j : ℕ) → j < k → EntryAsked pairs q j

-- ---- when each is given

-- of one entry, which is number k, over a run of digest bytes and a list of extents: 7, 15, 8, 9, 10
pub data EntryGiven (pairs digests extents : List ℕ) (e : Entry) (k : ℕ) : Refusal → Type 0 where
  by-marks : ¬ MarksAsked e → EntryGiven pairs digests extents e k (refusal RecordWrong k)
  by-lists : MarksAsked e → ¬ ListsAsked digests extents e → EntryGiven pairs digests extents e k (refusal ListEnd k)
  by-digest : MarksAsked e → ListsAsked digests extents e → ¬ (allows pairs e.hash_id e.digest_length ≡ true)
      → EntryGiven pairs digests extents e k (refusal Digest k)
  by-places : MarksAsked e → ListsAsked digests extents e → allows pairs e.hash_id e.digest_length ≡ true → ¬ PlacesAsked e
      → EntryGiven pairs digests extents e k (refusal Extents k)
  by_total : MarksAsked e → ListsAsked digests extents e → allows pairs e.hash_id e.digest_length ≡ true → PlacesAsked e
      → ¬ TotalAsked v3 (entry_extents extents e)
      → EntryGiven pairs digests extents e k (refusal Total k)

-- everything before the size
pub data RequestGiven (pairs : List ℕ) (q : Request) : Refusal → Type 0 where
  by-table : good_table pairs ≡ false → RequestGiven pairs q (refusal Table 0)
  by_count : good_table pairs ≡ true → record_limit < entry_count q.entries → RequestGiven pairs q (refusal Large 0)
  by-bloom : good_table pairs ≡ true → entry_count q.entries ≤ record_limit → ¬ (length q.bloom % 8 ≡ 0) → RequestGiven pairs q (refusal LayoutBloom 0)
  by-entry : {r : Refusal} (k : ℕ) → EntryReached pairs q k → EntryGiven pairs q.digests q.extents (entry_no q.entries k) k r
      → RequestGiven pairs q r
  -- at the lowest entry whose key stands earlier
  by_key : (k : ℕ) → UpToEntries pairs q → FirstTwice (entry_key q.entries q.digests) (entry_count q.entries) k
      → RequestGiven pairs q (refusal Duplicate k)

-- and then 16, 13
abbrev pub WriteGiven : List ℕ → Request → ℕ → Refusal → Type 0
WriteGiven pairs q room r = RequestGiven pairs q r ⊎ (Asks pairs q × SizeGiven (length (written_bytes q)) room r)
