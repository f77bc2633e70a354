-- docs/FORMAT.md, "The whole file":
-- in a file with the right length, header, sections and footer account for each byte once. Each section is taken from where the header says that it
-- lies, with the size that the header gives it.
-- Assumes nothing: these are definitions.
use Rattle.std.specs.Prelude.{ℕ, ◌-◌, ◌*◌, ◌≡◌, List, ◌++◌, length, take, drop}
use Rattle.segment.specs.declared.header.Header.{Header}
use Rattle.segment.specs.Format.{
  v3,
  header_size,
  extent_size,
  footer_size,
  record_count,
  records_offset,
  bloom_offset,
  bloom_size,
  digests_offset,
  digests_size,
  extents_offset,
  extent_count,
}

-- n bytes of s, from a place on
abbrev pub part : List ℕ → ℕ → ℕ → List ℕ
part s at n = take n (drop at s)

abbrev pub header_stretch : List ℕ → List ℕ
header_stretch s = part s 0 header_size

abbrev pub bloom_stretch : List ℕ → Header → List ℕ
bloom_stretch s h = part s (bloom_offset h) (bloom_size h)

abbrev pub records_stretch : List ℕ → Header → List ℕ
records_stretch s h = part s (records_offset h) (v3.record_size * record_count h)

abbrev pub digests_stretch : List ℕ → Header → List ℕ
digests_stretch s h = part s (digests_offset h) (digests_size h)

abbrev pub extents_stretch : List ℕ → Header → List ℕ
extents_stretch s h = part s (extents_offset h) (extent_size * extent_count h)

abbrev pub footer_stretch : List ℕ → List ℕ
footer_stretch s = part s (length s - footer_size) footer_size

pub record EachByteOnce (s : List ℕ) (h : Header) : Type 0 where
  pub whole : s ≡ header_stretch s ++ (bloom_stretch s h ++ (records_stretch s h ++ (digests_stretch s h ++ (extents_stretch s h ++ footer_stretch s))))
  pub header : length (header_stretch s) ≡ header_size
  pub bloom : length (bloom_stretch s h) ≡ bloom_size h
  pub records : length (records_stretch s h) ≡ v3.record_size * record_count h
  pub digests : length (digests_stretch s h) ≡ digests_size h
  pub extents : length (extents_stretch s h) ≡ extent_size * extent_count h
  pub footer : length (footer_stretch s) ≡ footer_size
