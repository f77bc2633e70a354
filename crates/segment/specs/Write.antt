-- docs/SERVICES.md, "Write": the meaning's header numbers, bloom bytes, entries, a run of digest bytes and a list of extents. Order: 14,
-- 16 for the entry count, 51, then entries by number and within one 7, 15, 8, 9, 10; then 12, 16 for size, 13. A flat list's unfinished
-- last item is not read. A lent number too wide for its field gives 7 in visibility, marks or source, 8 in hash id or digest length,
-- 9 in extent count, 10 in an extent.
--   Request           what write is lent besides the table and the output
--   entry_no           the k-th entry of a flat list, nine numbers to an entry
--   wrote             what write answers
--   write_of           the same in numbers, and what it leaves in the output
-- Assumes nothing: these are definitions.
use Rattle.std.specs.Prelude.{ℕ, zero, suc, ◌+◌, ◌*◌, ◌/◌, ◌%◌, Bool, true, cond, ◌&&◌, ◌||◌, List, [], ◌∷◌, map, leb, ltb, eqb, length, get_or, take, drop}
use Rattle.answer.specs.declared.Rule.TheVariants.{LayoutBloom, Record, Digest, Extents, Total, List as ListEnd, Large}
use Rattle.answer.specs.Rules.{must, ◌then◌, first_over, Verdict}
use Rattle.answer.specs.Answers.{refusal, Written}
use Rattle.segment.specs.declared.header.Heading.{Heading}
use Rattle.segment.specs.declared.entry.Entry.{Entry}
use Rattle.segment.specs.declared.extent.Extent.{Extent}
use Rattle.segment.specs.declared.shape.Shape.{Shape}
use Rattle.segment.specs.Format.{v3, record_limit, entry_size, listed_size, in_block}
use Rattle.table.specs.Table.{table_verdict, allows}
use Rattle.segment.specs.Keys.{Key, key_of, key_from, fresh_key}
use Rattle.segment.specs.Check.{extent_fits, sum_lengths}
use Rattle.segment.specs.Meaning.{gone, live, Row, Meaning, source_of}
use Rattle.lists.specs.Lists.{count_from}
use Rattle.segment.specs.Tidy.{tidy_form, settled, output_after, Outcome, outcome}

pub record Request : Type 0 where
  pub heading : Heading
  pub bloom : List ℕ
  pub entries : List ℕ
  pub digests : List ℕ
  pub extents : List ℕ

-- the whole items of a flat list
abbrev pub entry_count : List ℕ → ℕ
entry_count xs = length xs / entry_size

abbrev pub listed_extents : List ℕ → ℕ
listed_extents xs = length xs / listed_size

unfoldable pub entry_no : List ℕ → ℕ → Entry
entry_no xs k = record {
  hash_id = get_or xs (entry_size * k) 0;
  digest_start = get_or xs (entry_size * k + 1) 0;
  digest_length = get_or xs (entry_size * k + 2) 0;
  visibility = get_or xs (entry_size * k + 3) 0;
  imported = get_or xs (entry_size * k + 4) 0;
  source = get_or xs (entry_size * k + 5) 0;
  gone = get_or xs (entry_size * k + 6) 0;
  first_extent = get_or xs (entry_size * k + 7) 0;
  extent_count = get_or xs (entry_size * k + 8) 0;
}

unfoldable pub listed_extent : List ℕ → ℕ → Extent
listed_extent xs j = record { block = get_or xs (listed_size * j) 0; offset = in_block (get_or xs (listed_size * j + 1) 0); length = get_or xs (listed_size * j + 2) 0 }

-- n extents of a flat list, from the j-th on
unfoldable pub extents_from : List ℕ → ℕ → ℕ → List Extent
extents_from xs j zero = []
extents_from xs j (suc n) = listed_extent xs j ∷ extents_from xs (suc j) n

abbrev pub entry_extents : List ℕ → Entry → List Extent
entry_extents xs e = extents_from xs e.first_extent e.extent_count

abbrev pub entry_gone : Entry → Bool
entry_gone e = eqb e.gone 1

-- 7: visibility, marks or source wrong, or too wide
unfoldable pub entry_marks : Entry → ℕ → Verdict
entry_marks e p =
    must (leb e.visibility 1) (refusal Record p)
    then must (leb e.imported 1) (refusal Record p)
    then must (leb e.gone 1) (refusal Record p)
    then must (ltb e.source 4294967296) (refusal Record p)
    then must (eqb e.imported 1 || eqb e.source 0) (refusal Record p)

-- 15: start + count passes the end of the lent digests or extents
unfoldable pub entry_lists : List ℕ → List ℕ → Entry → ℕ → Verdict
entry_lists digests extents e p =
    must (leb (e.digest_start + e.digest_length) (length digests)) (refusal ListEnd p)
    then must (leb (e.first_extent + e.extent_count) (listed_extents extents)) (refusal ListEnd p)

-- 8: unknown hash id, or wrong length; one that is too wide is unknown, or wrong
unfoldable pub entry_digest : List ℕ → Entry → ℕ → Verdict
entry_digest pairs e p = must (allows pairs e.hash_id e.digest_length) (refusal Digest p)

-- 9: gone with first extent or count not 0; not gone with none; or a count too wide
unfoldable pub entry_places : Entry → ℕ → Verdict
entry_places e p =
    cond (entry_gone e)
    (must (eqb e.first_extent 0) (refusal Extents p) then must (eqb e.extent_count 0) (refusal Extents p))
    (must (leb 1 e.extent_count) (refusal Extents p) then must (ltb e.extent_count 4294967296) (refusal Extents p))

-- an extent whose numbers fit their fields, and which lies inside its block
abbrev pub listed_fits : Extent → Bool
listed_fits e = ltb e.offset.0 4294967296 && (ltb e.length 4294967296 && extent_fits e)

unfoldable pub all_listed_fit : List Extent → Bool
all_listed_fit [] = true
all_listed_fit (e ∷ es) = listed_fits e && all_listed_fit es

-- 10: a number too wide in an extent, an extent passes 2^32, or the sum passes the limit
unfoldable pub entry_total : Shape → List Extent → ℕ → Verdict
entry_total sh es p = must (all_listed_fit es) (refusal Total p) then must (leb (sum_lengths es) sh.total_limit) (refusal Total p)

-- the place of a refusal of entry k: its number
abbrev pub entry_place : ℕ → ℕ
entry_place k = k

-- one entry, which is refused at place p, over a run of digest bytes and a list of extents
unfoldable pub entry_rules : Shape → List ℕ → List ℕ → List ℕ → Entry → ℕ → Verdict
entry_rules sh pairs digests extents e p =
    entry_marks e p
    then entry_lists digests extents e p
    then entry_digest pairs e p
    then entry_places e p
    then entry_total sh (entry_extents extents e) p

unfoldable pub entry_verdict : Shape → List ℕ → List ℕ → List ℕ → List ℕ → ℕ → Verdict
entry_verdict sh pairs entries digests extents k = entry_rules sh pairs digests extents (entry_no entries k) (entry_place k)

unfoldable pub entry_digest_bytes : List ℕ → Entry → List ℕ
entry_digest_bytes digests e = take e.digest_length (drop e.digest_start digests)

-- the key of an entry, over a run of digest bytes; and the numbers of the key of entry k
abbrev pub key_of_entry : List ℕ → Entry → Key
key_of_entry digests e = key_from e.hash_id (entry_digest_bytes digests e)

unfoldable pub entry_key : List ℕ → List ℕ → ℕ → List ℕ
entry_key entries digests k = key_of (key_of_entry digests (entry_no entries k))

-- the record that entry k asks for
unfoldable pub entry_row : List ℕ → List ℕ → List ℕ → ℕ → Row
entry_row entries digests extents k =
    let e = entry_no entries k in
    record {
      key = key_of_entry digests e;
      visibility = e.visibility;
      source = source_of e.imported e.source;
      state = cond (entry_gone e) gone (live (entry_extents extents e));
    }

-- the meaning that is asked for
unfoldable pub requested : Request → Meaning
requested q = record {
  heading = q.heading;
  bloom = q.bloom;
  records = map (entry_row q.entries q.digests q.extents) (count_from 0 (entry_count q.entries));
}

-- 16 for the entry count and 51, which has no byte of a file here; the entries; 12. Of a run of bloom bytes, of which there are some number
unfoldable pub request_rules : Shape → List ℕ → ℕ → List ℕ → List ℕ → List ℕ → Verdict
request_rules sh pairs bloom entries digests extents =
    must (leb (entry_count entries) record_limit) (refusal Large 0)
    then must (eqb (bloom % 8) 0) (refusal LayoutBloom 0)
    then first_over (entry_count entries) (entry_verdict sh pairs entries digests extents)
    then first_over (entry_count entries) (fresh_key (entry_key entries digests) entry_place)

-- everything before the size
unfoldable pub request_verdict : Shape → List ℕ → Request → Verdict
request_verdict sh pairs q = table_verdict pairs then request_rules sh pairs (length q.bloom) q.entries q.digests q.extents

unfoldable pub wrote : List ℕ → Request → ℕ → Written
wrote pairs q room = settled (request_verdict v3 pairs q) (tidy_form v3 (requested q)) room

unfoldable pub write_of : List ℕ → Request → List ℕ → Outcome
write_of pairs q out =
    let w = wrote pairs q (length out) in
    outcome w (output_after w (tidy_form v3 (requested q)) out)
