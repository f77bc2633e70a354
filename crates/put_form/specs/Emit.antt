-- What the writers of a segment tell each other.
--   Moderate          sizes whose sums pass no number's width
--   header_for         the header of a segment with so many bloom bytes and records, whose digests and extents have these sizes
--   Plan              a header of rows' form, which has so many bytes of digests, and is a file of so many bytes
--   sections_under, body_under   the three sections of rows, and everything before the footer, under such a header
--   form_in           the form of rows in a frame
--   EmittedAfter, Emitted   what write and tidy answer and leave of a form and an output
-- Assumes nothing: these are definitions.
use Rattle.std.specs.Prelude.{ℕ, ◌+◌, ◌≤◌, ◌≡◌, List, ◌++◌, length}
use Rattle.answer.specs.Answers.{Written}
use Rattle.answer.specs.Rules.{Verdict, accepted}
use Rattle.segment.specs.declared.header.Header.{Header}
use Rattle.segment.specs.declared.header.Heading.{Heading}
use Rattle.segment.specs.declared.shape.Shape.{Shape}
use Rattle.segment.specs.Format.{file_limit, record_limit, digests_offset, extents_offset}
use Rattle.segment.specs.Meaning.{Row}
use Rattle.segment.specs.Tidy.{
  packed,
  header_fields,
  header_over,
  records_bytes,
  digest_bytes,
  digest_section,
  lacking,
  extent_bytes,
  form_header,
  form_of,
  settled,
  output_after,
}
use Rattle.put_item.specs.declared.Sizes.{Sizes}
use Rattle.put_form.specs.declared.Frame.{Frame}

-- for each of 65,536 records at most 1,024 bytes of digest and 2^32 extents
pub record Moderate (bloom count : ℕ) (s : Sizes) : Type 0 where
  pub short : bloom ≤ file_limit
  pub few : count ≤ record_limit
  pub digests : s.digests ≤ 67108864
  pub extents : s.extents ≤ 281474976710656
  pub visibility : s.visibility ≤ 1

unfoldable pub header_for : Shape → Heading → ℕ → ℕ → Sizes → Header
header_for sh t bloom count s = header_over sh t bloom count (s.digests + lacking s.digests) s.extents s.visibility

pub record Plan (sh : Shape) (h : Header) (rows : List Row) (used n : ℕ) : Type 0 where
  pub heading : Heading
  pub bloom : List ℕ
  pub header : h ≡ form_header sh heading (length bloom) rows
  pub file : n ≡ length (form_of sh heading bloom rows)
  pub few : length rows ≤ record_limit
  pub filled : used ≡ length (digest_bytes rows)
  pub limit : n ≤ file_limit

unfoldable pub sections_under : Shape → Header → List Row → List ℕ
sections_under sh h rows =
    records_bytes sh h.domain rows (digests_offset h) (extents_offset h) ++ (digest_section rows ++ extent_bytes rows)

unfoldable pub body_under : Shape → Header → List ℕ → List Row → List ℕ
body_under sh h bloom rows = packed (header_fields h) ++ (bloom ++ sections_under sh h rows)

abbrev pub form_in : Frame → List Row → List ℕ
form_in frame rows = form_of frame.shape frame.heading frame.bloom.now rows

-- what is left where a verdict comes before the size: the first refusal and the output as it was, or the form and the bytes that stood after it
pub record EmittedAfter (v : Verdict) (form out after : List ℕ) (w : Written) : Type 0 where
  pub answer : w ≡ settled v form (length out)
  pub output : after ≡ output_after w form out

-- and where nothing before the size is refused
abbrev pub Emitted : List ℕ → List ℕ → List ℕ → Written → Type 0
Emitted form out after w = EmittedAfter accepted form out after w
