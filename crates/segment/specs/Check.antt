-- The rules of docs/FORMAT.md in the order in which check tries them: 14, 1 to 4, 51 to 55, 6, then the records by number and within one
-- 7 to 10, then 11, 12. The first that is broken is the answer. Sums and products are over whole numbers.
--   checked     what check answers of a table and a list of bytes
--   check_of     the same in numbers
-- Assumes nothing: these are definitions.
use Rattle.std.specs.Prelude.{ℕ, zero, suc, ◌+◌, ◌-◌, ◌*◌, ◌%◌, max, Bool, true, cond, ◌&&◌, ◌||◌, List, [], ◌∷◌, leb, eqb, length, take, drop}
use Rattle.crc64.specs.Crc.{crc}
use Rattle.answer.specs.declared.Rule.TheVariants.{
  Size,
  Magic,
  Version,
  Header as HeaderWrong,
  LayoutBloom,
  LayoutRecords,
  LayoutDigests,
  LayoutExtents,
  LayoutLength,
  Checksum,
  Record as RecordWrong,
  Digest,
  Extents,
  Total,
  Visibility,
}
use Rattle.answer.specs.Rules.{must, ◌then◌, first_over, Verdict}
use Rattle.answer.specs.Answers.{Answer, refusal, check_answer}
use Rattle.segment.specs.declared.header.Header.{Header}
use Rattle.segment.specs.declared.record.Record.{Record}
use Rattle.segment.specs.declared.extent.Extent.{Extent}
use Rattle.segment.specs.declared.shape.Shape.{Shape}
use Rattle.segment.specs.Format.{
  v3,
  header_size,
  extent_size,
  footer_size,
  least_file,
  file_limit,
  record_limit,
  block_end,
  header_of,
  footer_of,
  record_count,
  records_offset,
  bloom_offset,
  bloom_size,
  digests_offset,
  digests_size,
  extents_offset,
  extent_count,
  record_at,
  record_no,
  extents_in,
}
use Rattle.table.specs.Table.{table_verdict, allows}
use Rattle.segment.specs.Keys.{Key, key_of, key_from, fresh_key}

-- 1: shorter than 136 or longer than the limit
unfoldable pub size_verdict : ℕ → Verdict
size_verdict n = must (leb least_file n) (refusal Size 0) then must (leb n file_limit) (refusal Size 0)

-- 2, 3, and 4: header size, federation version, reserved or flags wrong, or visibility above 1
unfoldable pub head_verdict : Shape → Header → Verdict
head_verdict sh h =
    must (eqb h.magic sh.magic) (refusal Magic 0)
    then must (eqb h.version sh.version) (refusal Version 0)
    then must (eqb h.header_size header_size) (refusal HeaderWrong 0)
    then must (eqb h.federation 0) (refusal HeaderWrong 0)
    then must (eqb h.reserved 0) (refusal HeaderWrong 0)
    then must (eqb h.flags 0) (refusal HeaderWrong 0)
    then must (leb h.visibility 1) (refusal HeaderWrong 0)

-- where the bloom bytes of a size begin: 0 if there are none, else 112
abbrev pub bloom_place : ℕ → ℕ
bloom_place size = cond (eqb size 0) 0 header_size

-- The layout rules of a header. The place of each is the byte of the header at which its fields begin.
-- 51: bloom offset is what bloom size says, and bloom size a multiple of 8
unfoldable pub bloom_laid : Header → Verdict
bloom_laid h =
    must (eqb (bloom_offset h) (bloom_place (bloom_size h))) (refusal LayoutBloom 48)
    then must (eqb (bloom_size h % 8) 0) (refusal LayoutBloom 48)

-- 52: at most 65,536 records, and records offset is 112 + bloom size
unfoldable pub records_laid : Header → Verdict
records_laid h =
    must (leb (record_count h) record_limit) (refusal LayoutRecords 32)
    then must (eqb (records_offset h) (header_size + bloom_size h)) (refusal LayoutRecords 32)

-- 53: digests offset is records offset + 48 × records, for 48 the shape's record size, and digests size a multiple of 8
unfoldable pub digests_laid : Shape → Header → Verdict
digests_laid sh h =
    must (eqb (digests_offset h) (records_offset h + sh.record_size * record_count h)) (refusal LayoutDigests 64)
    then must (eqb (digests_size h % 8) 0) (refusal LayoutDigests 64)

-- 54: extents offset is digests offset + digests size
unfoldable pub extents_laid : Header → Verdict
extents_laid h = must (eqb (extents_offset h) (digests_offset h + digests_size h)) (refusal LayoutExtents 80)

-- 55: the file's length n is extents offset + 16 × extent count + 24
unfoldable pub length_laid : Header → ℕ → Verdict
length_laid h n = must (eqb n (extents_offset h + extent_size * extent_count h + footer_size)) (refusal LayoutLength 88)

-- the five in order, of a file of n bytes
unfoldable pub layout_verdict : Shape → Header → ℕ → Verdict
layout_verdict sh h n = bloom_laid h then records_laid h then digests_laid sh h then extents_laid h then length_laid h n

-- 6: the checksum covers every byte before the footer
unfoldable pub checksum_verdict : List ℕ → Verdict
checksum_verdict s =
    must (eqb (footer_of s (length s - footer_size)).checksum (crc (take (length s - footer_size) s))) (refusal Checksum 0)

-- 7: reserved, flags, marks, visibility, source or domain wrong
unfoldable pub marks_verdict : Header → Record → ℕ → Verdict
marks_verdict h r p =
    must (eqb r.reserved 0) (refusal RecordWrong p)
    then must (eqb r.reserved_last 0) (refusal RecordWrong p)
    then must (leb r.flags 1) (refusal RecordWrong p)
    then must (leb r.visibility 1) (refusal RecordWrong p)
    then must (leb r.imported 1) (refusal RecordWrong p)
    then must (eqb r.imported 1 || eqb r.source 0) (refusal RecordWrong p)
    then must (eqb r.domain h.domain) (refusal RecordWrong p)

-- 8: unknown hash id, wrong length, or outside its section
unfoldable pub digest_verdict : List ℕ → Header → Record → ℕ → Verdict
digest_verdict pairs h r p =
    must (allows pairs r.hash_id r.digest_length) (refusal Digest p)
    then must (leb (digests_offset h) r.digest_offset.0) (refusal Digest p)
    then must (leb (r.digest_offset.0 + r.digest_length) (digests_offset h + digests_size h)) (refusal Digest p)

abbrev pub is_gone : Record → Bool
is_gone r = eqb r.flags 1

-- 9: gone with extents offset or count not 0
unfoldable pub gone_extents : Record → ℕ → Verdict
gone_extents r p = must (eqb r.extents_offset.0 0) (refusal Extents p) then must (eqb r.extent_count 0) (refusal Extents p)

-- not gone with none, or misplaced
unfoldable pub live_extents : Header → Record → ℕ → Verdict
live_extents h r p =
    must (leb 1 r.extent_count) (refusal Extents p)
    then must (leb (extents_offset h) r.extents_offset.0) (refusal Extents p)
    then must (eqb ((r.extents_offset.0 - extents_offset h) % extent_size) 0) (refusal Extents p)
    then must (leb (r.extents_offset.0 + extent_size * r.extent_count) (extents_offset h + extent_size * extent_count h)) (refusal Extents p)

unfoldable pub extents_verdict : Header → Record → ℕ → Verdict
extents_verdict h r p = cond (is_gone r) (gone_extents r p) (live_extents h r p)

-- an extent's offset + length is at most 4,294,967,296
abbrev pub extent_fits : Extent → Bool
extent_fits e = leb (e.offset.0 + e.length) block_end

unfoldable pub all_fit : List Extent → Bool
all_fit [] = true
all_fit (e ∷ es) = extent_fits e && all_fit es

unfoldable pub sum_lengths : List Extent → ℕ
sum_lengths [] = 0
sum_lengths (e ∷ es) = e.length + sum_lengths es

-- 10: an extent passes 2^32, the sum differs or passes the limit
unfoldable pub live_total : Shape → List Extent → ℕ → ℕ → Verdict
live_total sh es total p =
    must (all_fit es) (refusal Total p)
    then must (leb (sum_lengths es) sh.total_limit) (refusal Total p)
    then must (eqb (sum_lengths es) total) (refusal Total p)

-- or gone with total not 0
unfoldable pub total_verdict : Shape → List ℕ → Record → ℕ → Verdict
total_verdict sh s r p =
    cond (is_gone r) (must (eqb r.total_length 0) (refusal Total p)) (live_total sh (extents_in s r) r.total_length p)

-- one record, which is refused at place p: the byte at which it begins
unfoldable pub record_rules : Shape → List ℕ → List ℕ → Header → Record → ℕ → Verdict
record_rules sh pairs s h r p =
    marks_verdict h r p then digest_verdict pairs h r p then extents_verdict h r p then total_verdict sh s r p

unfoldable pub record_verdict : Shape → List ℕ → List ℕ → Header → ℕ → Verdict
record_verdict sh pairs s h k = record_rules sh pairs s h (record_no sh s h k) (record_at sh h k)

-- the visibility of record k
unfoldable pub visibility_no : Shape → List ℕ → Header → ℕ → ℕ
visibility_no sh s h k = (record_no sh s h k).visibility

-- the largest of f 0, f 1, .. below n, and 0 if there is none
unfoldable pub largest_below : ℕ → (ℕ → ℕ) → ℕ
largest_below zero f = 0
largest_below (suc n) f = max (largest_below n f) (f n)

-- 11: the header's visibility is the largest of the records', gone ones included
unfoldable pub visibility_verdict : Shape → List ℕ → Header → Verdict
visibility_verdict sh s h = must (eqb h.visibility (largest_below (record_count h) (visibility_no sh s h))) (refusal Visibility 0)

-- the digest of a record, its key, and the numbers of the key of record k
unfoldable pub digest_in : List ℕ → Record → List ℕ
digest_in s r = take r.digest_length (drop r.digest_offset.0 s)

abbrev pub record_key : List ℕ → Record → Key
record_key s r = key_from r.hash_id (digest_in s r)

unfoldable pub key_no : Shape → List ℕ → Header → ℕ → List ℕ
key_no sh s h k = key_of (record_key s (record_no sh s h k))

-- everything after 14 and 1, of a segment whose header is h
unfoldable pub segment_rules : Shape → List ℕ → List ℕ → Header → Verdict
segment_rules sh pairs s h =
    head_verdict sh h
    then layout_verdict sh h (length s)
    then checksum_verdict s
    then first_over (record_count h) (record_verdict sh pairs s h)
    then visibility_verdict sh s h
    then first_over (record_count h) (fresh_key (key_no sh s h) (record_at sh h))

-- every rule but 14
unfoldable pub segment_verdict : Shape → List ℕ → List ℕ → Verdict
segment_verdict sh pairs s = size_verdict (length s) then segment_rules sh pairs s (header_of s)

unfoldable pub checked : List ℕ → List ℕ → Verdict
checked pairs s = table_verdict pairs then segment_verdict v3 pairs s

unfoldable pub check_of : List ℕ → List ℕ → Answer
check_of pairs s = check_answer (checked pairs s)
