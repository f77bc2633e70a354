-- Header, extent and footer, written and read back; and the extents of a record, one after the other.
-- Assumes nothing.
use Prim.Native.Nat.{ℕ, zero, suc, ◌+◌, ◌*◌, ◌≤◌, ◌<◌}
use mathlib.Core.Path.{◌≡◌, refl, sym, ap, ◌∙◌}
use mathlib.Core.List.{List, [], ◌∷◌}
use native.Mathlib.Nat.{add-zero, not-suc-le-zero}
use native.Mathlib.Omega.{arith}
use lib.ListN.{length, length-append}
use Rattle.numbers.specs.Numbers.{num_at}
use Rattle.segment.specs.declared.header.Header.{Header}
use Rattle.segment.specs.declared.extent.Extent.{Extent}
use Rattle.segment.specs.declared.footer.Footer.{Footer}
use Rattle.segment.specs.Format.{in_file, in_block, block_end, header_of, extent_of, footer_of, extents_at}
use Rattle.segment.specs.Tidy.{packed, header_fields, extent_fields, footer_fields, extent_list_bytes}
use Rattle.lists.specs.Lists.{Each}
use Rattle.form_laws.specs.Form.{ExtentWritable}
use Rattle.form_laws.proofs.PartsAt.{HasAt, has_left, has_right}
use Rattle.form_laws.proofs.PackedFields.{widths, before, Fits, length-packed, field-read}

pub header-long : (h : Header) → length (packed (header_fields h)) ≡ 112
unfolding header_fields widths
header-long h = length-packed (header_fields h)

pub header_read : (s : List ℕ) (h : Header) → HasAt s 0 (packed (header_fields h)) → Each Fits (header_fields h) → header_of s ≡ h
unfolding header_of header_fields before
header_read s h p e =
    let read = field-read (header_fields h) p e in
    λ j. record {
      magic = read 0 j;
      version = read 1 j;
      shard = read 2 j;
      header_size = read 3 j;
      snapshot_min = read 4 j;
      snapshot_max = read 5 j;
      record_count = read 6 j;
      records_offset = in_file (read 7 j);
      bloom_offset = in_file (read 8 j);
      bloom_size = read 9 j;
      digests_offset = in_file (read 10 j);
      digests_size = read 11 j;
      extents_offset = in_file (read 12 j);
      extent_count = read 13 j;
      domain = read 14 j;
      visibility = read 15 j;
      federation = read 16 j;
      reserved = read 17 j;
      flags = read 18 j;
    }

pub footer-long : (f : Footer) → length (packed (footer_fields f)) ≡ 24
unfolding footer_fields widths
footer-long f = length-packed (footer_fields f)

pub footer-read : (s : List ℕ) (at : ℕ) (f : Footer) → HasAt s at (packed (footer_fields f)) → Each Fits (footer_fields f) → footer_of s at ≡ f
unfolding footer_of footer_fields before
footer-read s at f p e =
    let read = field-read (footer_fields f) p e in
    let first = ap (num_at 8 s) (sym (add-zero at)) ∙ read 0 in
    λ j. record { checksum = first j; seal_snapshot = read 1 j; seal_time = read 2 j }

-- ---- extents

pub extent-long : (e : Extent) → length (packed (extent_fields e)) ≡ 16
unfolding extent_fields widths
extent-long e = length-packed (extent_fields e)

extent-fits : (e : Extent) → ExtentWritable e → Each Fits (extent_fields e)
unfolding Each extent_fields
extent-fits e w = omega arith

extent-read : (s : List ℕ) (at : ℕ) (e : Extent) → HasAt s at (packed (extent_fields e)) → ExtentWritable e → extent_of s at ≡ e
unfolding extent_of extent_fields before
extent-read s at e p w =
    let read = field-read (extent_fields e) p (extent-fits e w) in
    let first = ap (num_at 8 s) (sym (add-zero at)) ∙ read 0 in
    λ j. record { block = first j; offset = in_block (read 1 j); length = read 2 j }

pub extents-long : (es : List Extent) → length (extent_list_bytes es) ≡ 16 * length es
unfolding extent_list_bytes
extents-long [] = refl
extents-long (e ∷ es) = length-append (packed (extent_fields e)) (extent_list_bytes es) ∙ omega (arith, extent-long e, extents-long es)

-- the extents behind the first
next-extents : {s : List ℕ} {at : ℕ} (e : Extent) (es : List Extent) → HasAt s at (extent_list_bytes (e ∷ es)) → HasAt s (at + 16) (extent_list_bytes es)
unfolding extent_list_bytes
next-extents e es p = rw (extent-long e) at (has_right (packed (extent_fields e)) (extent_list_bytes es) p)

pub extents-read : (s : List ℕ) (at : ℕ) (es : List Extent) → HasAt s at (extent_list_bytes es) → Each ExtentWritable es
    → extents_at s at (length es) ≡ es
unfolding extent_list_bytes extents_at Each
extents-read s at [] p w = refl
extents-read s at (e ∷ es) p w =
    let first = extent-read s at e (has_left (packed (extent_fields e)) (extent_list_bytes es) p) w.0 in
    let others = extents-read s (at + 16) es (next-extents e es p) w.1 in
    cc

-- each lies inside its block
pub extents-inside : (s : List ℕ) (at : ℕ) (es : List Extent) → HasAt s at (extent_list_bytes es) → Each ExtentWritable es
    → (j : ℕ) → j < length es → (extent_of s (at + 16 * j)).offset.0 + (extent_of s (at + 16 * j)).length ≤ block_end
unfolding extent_list_bytes Each
extents-inside s at [] p w j l = absurd (not-suc-le-zero l)
extents-inside s at (e ∷ es) p w zero l =
    let here : at + 16 * 0 ≡ at = omega arith in
    rw (here, extent-read s at e (has_left (packed (extent_fields e)) (extent_list_bytes es) p) w.0) w.0.inside
extents-inside s at (e ∷ es) p w (suc j) l =
    let there : at + 16 * suc j ≡ at + 16 + 16 * j = omega arith in
    rw there (extents-inside s (at + 16) es (next-extents e es p) w.1 j (omega arith))
