-- docs/FORMAT.md, "Meaning and tidy form": records ascend by key; digests are packed in record order, then zeros up to a multiple of 8; extents
-- are packed in record order with none shared or unused. It is a function on the meaning, section by section.
--   Field, packed     a number and its width in bytes; the bytes of a list of them
--   form_of            the segment of rows in the order in which they stand
--   tidy_form          the tidy form of a meaning
--   tidied, tidy_of    what tidy answers, and what it leaves in the output
--   tidy_length_of      what the call answers that tells the tidy form's length and writes nothing
-- Assumes nothing: these are definitions.
use Rattle.std.specs.Prelude.{ℕ, ◌+◌, ◌-◌, ◌*◌, ◌%◌, max, Bool, cond, List, [], ◌∷◌, ◌++◌, leb, length, drop, replicate, None, Some, Ok, Err}
use Rattle.numbers.specs.Numbers.{bytes_of}
use Rattle.crc64.specs.Crc.{crc}
use Rattle.answer.specs.declared.Rule.TheVariants.{Room, Large}
use Rattle.answer.specs.Rules.{must, ◌then◌, Verdict}
use Rattle.answer.specs.Answers.{Answer, refusal, written_answer, Source, Written}
use Rattle.segment.specs.declared.header.Header.{Header}
use Rattle.segment.specs.declared.header.Heading.{Heading}
use Rattle.segment.specs.declared.record.Record.{Record}
use Rattle.segment.specs.declared.extent.Extent.{Extent}
use Rattle.segment.specs.declared.footer.Footer.{Footer}
use Rattle.segment.specs.declared.shape.Shape.{Shape}
use Rattle.segment.specs.Format.{v3, header_size, extent_size, file_limit, in_file}
use Rattle.lists.specs.Lists.{lex_leq, sort_by}
use Rattle.segment.specs.Check.{sum_lengths, bloom_place, checked}
use Rattle.segment.specs.Meaning.{State, gone, live, Row, row_key, row_extents, Meaning, meaning_of}

-- ---- fields

pub record Field : Type 0 where
  pub width : ℕ
  pub value : ℕ

abbrev pub u8 : ℕ → Field
u8 v = record { width = 1; value = v }

abbrev pub u16 : ℕ → Field
u16 v = record { width = 2; value = v }

abbrev pub u32 : ℕ → Field
u32 v = record { width = 4; value = v }

abbrev pub u64 : ℕ → Field
u64 v = record { width = 8; value = v }

unfoldable pub packed : List Field → List ℕ
packed [] = []
packed (f ∷ fs) = bytes_of f.width f.value ++ packed fs

-- ---- the four structures

unfoldable pub header_fields : Header → List Field
header_fields h =
    u64 h.magic ∷ u16 h.version ∷ u16 h.shard ∷ u32 h.header_size ∷ u64 h.snapshot_min ∷ u64 h.snapshot_max
    ∷ u64 h.record_count ∷ u64 h.records_offset.0 ∷ u64 h.bloom_offset.0 ∷ u64 h.bloom_size
    ∷ u64 h.digests_offset.0 ∷ u64 h.digests_size ∷ u64 h.extents_offset.0 ∷ u64 h.extent_count
    ∷ u32 h.domain ∷ u8 h.visibility ∷ u8 h.federation ∷ u16 h.reserved ∷ u64 h.flags ∷ []

unfoldable pub extent_fields : Extent → List Field
extent_fields e = u64 e.block ∷ u32 e.offset.0 ∷ u32 e.length ∷ []

-- a total of four bytes stands among the other fields; where it is wide there are zeros, and its eight bytes stand behind all else
abbrev pub total_among : Bool → ℕ → ℕ
total_among wide total = cond wide 0 total

abbrev pub total_behind : Bool → ℕ → List Field
total_behind wide total = cond wide (u64 total ∷ []) []

unfoldable pub record_fields : Shape → Record → List Field
record_fields sh r =
    u32 r.hash_id ∷ u16 r.digest_length ∷ u16 r.reserved ∷ u64 r.digest_offset.0 ∷ u64 r.extents_offset.0
    ∷ u32 r.extent_count ∷ u32 (total_among sh.total_wide r.total_length) ∷ u32 r.domain ∷ u8 r.visibility ∷ u8 r.imported
    ∷ u16 r.reserved_last ∷ u32 r.source ∷ u32 r.flags ∷ total_behind sh.total_wide r.total_length

unfoldable pub footer_fields : Footer → List Field
footer_fields f = u64 f.checksum ∷ u64 f.seal_snapshot ∷ u64 f.seal_time ∷ []

-- ---- the record of a row

abbrev pub imported_of : Source → ℕ
imported_of None = 0
imported_of (Some d) = 1

abbrev pub domain_of : Source → ℕ
domain_of None = 0
domain_of (Some d) = d

abbrev pub flags_of : State → ℕ
flags_of gone = 1
flags_of (live es) = 0

-- where a record's extents are said to lie: 0 if it is gone
abbrev pub extents_place : State → ℕ → ℕ
extents_place gone at = 0
extents_place (live es) at = at

-- a row whose digest lies at one place and whose extents at another
unfoldable pub record_for : ℕ → Row → ℕ → ℕ → Record
record_for domain r digestAt extents_at = record {
  hash_id = r.key.hash_id;
  digest_length = length r.key.digest;
  reserved = 0;
  digest_offset = in_file digestAt;
  extents_offset = in_file (extents_place r.state extents_at);
  extent_count = length (row_extents r);
  total_length = sum_lengths (row_extents r);
  domain = domain;
  visibility = r.visibility;
  imported = imported_of r.source;
  reserved_last = 0;
  source = domain_of r.source;
  flags = flags_of r.state;
}

-- ---- the sections

unfoldable pub records_bytes : Shape → ℕ → List Row → ℕ → ℕ → List ℕ
records_bytes sh domain [] digestAt extents_at = []
records_bytes sh domain (r ∷ rs) digestAt extents_at =
    packed (record_fields sh (record_for domain r digestAt extents_at))
    ++ records_bytes sh domain rs (digestAt + length r.key.digest) (extents_at + extent_size * length (row_extents r))

unfoldable pub digest_bytes : List Row → List ℕ
digest_bytes [] = []
digest_bytes (r ∷ rs) = r.key.digest ++ digest_bytes rs

unfoldable pub extent_list_bytes : List Extent → List ℕ
extent_list_bytes [] = []
extent_list_bytes (e ∷ es) = packed (extent_fields e) ++ extent_list_bytes es

unfoldable pub extent_bytes : List Row → List ℕ
extent_bytes [] = []
extent_bytes (r ∷ rs) = extent_list_bytes (row_extents r) ++ extent_bytes rs

-- the bytes that a list's length lacks to a multiple of 8
abbrev pub lacking : ℕ → ℕ
lacking n = (8 - n % 8) % 8

unfoldable pub digest_section : List Row → List ℕ
digest_section rs = digest_bytes rs ++ replicate (lacking (length (digest_bytes rs))) 0

-- ---- the whole

unfoldable pub extent_total : List Row → ℕ
extent_total [] = 0
extent_total (r ∷ rs) = length (row_extents r) + extent_total rs

-- the largest visibility, gone ones included; 0 if there is none
unfoldable pub largest_visibility : List Row → ℕ
largest_visibility [] = 0
largest_visibility (r ∷ rs) = max r.visibility (largest_visibility rs)

-- the header over so many bloom bytes, records, bytes of digests with their padding, and extents: one section behind the other
abbrev pub header_over : Shape → Heading → (bloom count digests extents visibility : ℕ) → Header
header_over sh t bloom count digests extents visibility =
    let records_at = header_size + bloom in
    let digests_at = records_at + sh.record_size * count in
    record {
      magic = sh.magic;
      version = sh.version;
      shard = t.shard;
      header_size = header_size;
      snapshot_min = t.snapshot_min;
      snapshot_max = t.snapshot_max;
      record_count = count;
      records_offset = in_file records_at;
      bloom_offset = in_file (bloom_place bloom);
      bloom_size = bloom;
      digests_offset = in_file digests_at;
      digests_size = digests;
      extents_offset = in_file (digests_at + digests);
      extent_count = extents;
      domain = t.domain;
      visibility = visibility;
      federation = 0;
      reserved = 0;
      flags = 0;
    }

unfoldable pub form_header : Shape → Heading → ℕ → List Row → Header
form_header sh t bloom rs = header_over sh t bloom (length rs) (length (digest_section rs)) (extent_total rs) (largest_visibility rs)

-- every byte before the footer
unfoldable pub form_body : Shape → Heading → List ℕ → List Row → List ℕ
form_body sh t bloom rs =
    let h = form_header sh t (length bloom) rs in
    packed (header_fields h)
    ++ (bloom
    ++ (records_bytes sh t.domain rs h.digests_offset.0 h.extents_offset.0 ++ (digest_section rs ++ extent_bytes rs)))

unfoldable pub form_of : Shape → Heading → List ℕ → List Row → List ℕ
form_of sh t bloom rs =
    let body = form_body sh t bloom rs in
    body ++ packed (footer_fields (record { checksum = crc body; seal_snapshot = t.seal_snapshot; seal_time = t.seal_time }))

abbrev pub row_leq : Row → Row → Bool
row_leq a b = lex_leq (row_key a) (row_key b)

unfoldable pub tidy_form : Shape → Meaning → List ℕ
tidy_form sh m = form_of sh m.heading m.bloom (sort_by row_leq m.records)

-- ---- what tidy answers

-- 16: the result passes the limit
abbrev pub limit_verdict : ℕ → Verdict
limit_verdict n = must (leb n file_limit) (refusal Large 0)

-- and 13: the output is shorter than the result
unfoldable pub room_verdict : ℕ → ℕ → Verdict
room_verdict n room = limit_verdict n then must (leb n room) (refusal Room 0)

-- what stands in the output afterwards: the result and the bytes that stood after it, or what stood there before
abbrev pub output_after : Written → List ℕ → List ℕ → List ℕ
output_after (Ok n) result out = result ++ drop n out
output_after (Err r) result out = out

pub record Outcome : Type 0 where
  pub answer : Answer
  pub output : List ℕ

abbrev pub outcome : Written → List ℕ → Outcome
outcome w out = record { answer = written_answer w; output = out }

-- a result for an output of some room, where nothing before it is refused
unfoldable pub settled : Verdict → List ℕ → ℕ → Written
settled v result room = (v then room_verdict (length result) room) then Ok (length result)

-- as check, then 16, 13
unfoldable pub tidied : List ℕ → List ℕ → ℕ → Written
tidied pairs s room = settled (checked pairs s) (tidy_form v3 (meaning_of v3 s)) room

-- the length of the tidy form, with nothing written: as check, then 16
unfoldable pub tidy_sized : List ℕ → List ℕ → Written
tidy_sized pairs s =
    let n = length (tidy_form v3 (meaning_of v3 s)) in
    (checked pairs s then limit_verdict n) then Ok n

unfoldable pub tidy_length_of : List ℕ → List ℕ → Answer
tidy_length_of pairs s = written_answer (tidy_sized pairs s)

unfoldable pub tidy_of : List ℕ → List ℕ → List ℕ → Outcome
tidy_of pairs s out =
    let w = tidied pairs s (length out) in
    outcome w (output_after w (tidy_form v3 (meaning_of v3 s)) out)
