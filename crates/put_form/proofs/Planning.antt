-- What is measured of items, the header that is made of it, and the four answers: too many bloom bytes, too large, no room, and the form.
-- Assumes nothing.
use Prim.Native.Nat.{ℕ, ◌+◌, ◌*◌, ◌≤◌, ◌<◌}
use mathlib.Core.Path.{◌≡◌, refl, sym, ap, ◌∙◌}
use mathlib.Core.List.{List, [], ◌∷◌, ◌++◌}
use native.Mathlib.Nat.{mul-le-mul}
use native.Mathlib.Omega.{arith}
use lib.ListN.{length, drop, length-map}
use Rattle.std.specs.Prelude.{Err, Ok}
use Rattle.answer.specs.declared.Rule.TheVariants.{Room, Large}
use Rattle.answer.specs.Answers.{refusal}
use Rattle.lists.proofs.Tests.{tests}
use Rattle.segment.specs.declared.header.Header.{Header}
use Rattle.segment.specs.declared.shape.Shape.{Shape}
use Rattle.segment.specs.Shapes.{Shaped}
use Rattle.segment.specs.Format.{in_file, extents_offset, extent_count}
use Rattle.segment.proofs.Shapes.{shaped-most}
use Rattle.segment.specs.Check.{bloom_place}
use Rattle.segment.specs.Meaning.{Row}
use Rattle.segment.specs.Tidy.{digest_bytes, lacking, digest_section, extent_total, largest_visibility, form_header, room_verdict, settled}
use Rattle.form_laws.proofs.Sizes.{section-long, form-length}
use Rattle.lists.specs.Lists.{Each}
use Rattle.put_item.specs.declared.Sizes.{Sizes}
use Rattle.put_item.specs.declared.Source.{Source}
use Rattle.put_item.specs.Lines.{measured}
use Rattle.put_item.specs.Sources.{row_in, rows_in, LinesIn, measured_in}
use Rattle.put_item.proofs.ItemRows.{digests-in, extents-in, visibility-in}
use Rattle.put_form.specs.declared.Frame.{Frame}
use Rattle.put_form.specs.Emit.{Moderate, header_for, Plan, form_in, Emitted}

module _ (source : Source) where
  small : (numbers : List ℕ) → LinesIn source numbers
      → ((measured_in source numbers).digests ≤ 1024 * length numbers) × ((measured_in source numbers).extents ≤ 4294967296 * length numbers)
      × ((measured_in source numbers).visibility ≤ 1)
  unfolding Each measured
  small [] l = (omega arith, omega arith, omega arith)
  small (k ∷ ks) l =
      let n = l.0.counted.narrow in
      let r = small ks l.1 in
      (omega (arith, n.digest, r.0), omega (arith, n.extents, r.1), omega (arith, n.visibility, r.2))

  module _ (frame : Frame) (wf : Shaped frame.shape) (numbers : List ℕ) (l : LinesIn source numbers) (few : length numbers ≤ 65536) (s : Sizes) (m : s ≡ measured_in source numbers) where
    abbrev sh : Shape
    sh = frame.shape

    abbrev bloom : List ℕ
    bloom = frame.bloom.now

    abbrev rows : List Row
    rows = rows_in source numbers

    pub moderate : length bloom ≤ 1073741824 → Moderate (length bloom) (length numbers) s
    moderate b =
        let z = small numbers l in
        rw m (record {
          short = b;
          few = few;
          digests = omega (arith, z.0, few);
          extents = omega (arith, z.1, few);
          visibility = z.2;
        })

    many : length numbers ≡ length rows
    many = sym (length-map numbers (row_in source))

    bytes-many : sh.record_size * length numbers ≡ sh.record_size * length rows
    bytes-many = ap (λ (n : ℕ). sh.record_size * n) many

    pub digests-are : s.digests ≡ length (digest_bytes rows)
    digests-are = ap (λ (x : Sizes). x.digests) m ∙ sym (digests-in source numbers l)

    size_is : s.digests + lacking s.digests ≡ length (digest_section rows)
    size_is = ap (λ (n : ℕ). n + lacking n) digests-are ∙ sym (section-long rows)

    extents-are : s.extents ≡ extent_total rows
    extents-are = ap (λ (x : Sizes). x.extents) m ∙ sym (extents-in source numbers l)

    visibility-is : s.visibility ≡ largest_visibility rows
    visibility-is = ap (λ (x : Sizes). x.visibility) m ∙ sym (visibility-in source numbers)

    header-same : header_for sh frame.heading (length bloom) (length numbers) s ≡ form_header sh frame.heading (length bloom) rows
    unfolding header_for form_header
    header-same =
        let digests : 112 + length bloom + sh.record_size * length numbers ≡ 112 + length bloom + sh.record_size * length rows = omega (arith, bytes-many) in
        let end : 112 + length bloom + sh.record_size * length numbers + (s.digests + lacking s.digests) ≡ 112 + length bloom + sh.record_size * length rows + length (digest_section rows) =
        omega (arith, bytes-many, size_is) in
        λ j. record {
          magic = sh.magic;
          version = sh.version;
          shard = frame.heading.shard;
          header_size = 112;
          snapshot_min = frame.heading.snapshot_min;
          snapshot_max = frame.heading.snapshot_max;
          record_count = many j;
          records_offset = in_file (112 + length bloom);
          bloom_offset = in_file (bloom_place (length bloom));
          bloom_size = length bloom;
          digests_offset = in_file (digests j);
          digests_size = size_is j;
          extents_offset = in_file (end j);
          extent_count = extents-are j;
          domain = frame.heading.domain;
          visibility = visibility-is j;
          federation = 0;
          reserved = 0;
          flags = 0;
        }

    module _ (h : Header) (e : h ≡ header_for sh frame.heading (length bloom) (length numbers) s) where
      pub form-header : h ≡ form_header sh frame.heading (length bloom) rows
      form-header = e ∙ header-same

      pub bounded : length bloom ≤ 1073741824 → (extents_offset h ≤ 2147483648) × (extent_count h ≤ 281474976710656)
      unfolding header_for
      bounded b =
          let k = moderate b in
          let x : extents_offset h ≡ 112 + length bloom + sh.record_size * length numbers + (s.digests + lacking s.digests) = ap (λ (y : Header). extents_offset y) e in
          let z : extent_count h ≡ s.extents = ap (λ (y : Header). extent_count y) e in
          (omega (arith, k.short, mul-le-mul (shaped-most sh wf) k.few, k.digests, x), omega (arith, k.extents, z))

      -- the length of the form, as the header says it
      pub form-long : length (form_in frame rows) ≡ extents_offset h + 16 * extent_count h + 24
      unfolding form_header
      form-long =
          let a : extents_offset h ≡ 112 + length bloom + sh.record_size * length rows + length (digest_section rows) = ap (λ (x : Header). extents_offset x) form-header in
          let b : extent_count h ≡ extent_total rows = ap (λ (x : Header). extent_count x) form-header in
          form-length sh wf frame.heading bloom rows ∙ omega (arith, a, b)

      pub plan : (n : ℕ) → n ≡ extents_offset h + 16 * extent_count h + 24 → n ≤ 1073741824 → Plan sh h rows s.digests n
      plan n f k = record {
        heading = frame.heading;
        bloom = bloom;
        header = form-header;
        file = f ∙ sym form-long;
        few = omega (arith, few, many);
        filled = digests-are;
        limit = k;
      }

-- ---- the answers

module _ (form out : List ℕ) where
  pub too_large : 1073741824 < length form → Emitted form out out (Err (refusal Large 0))
  unfolding settled room_verdict
  too_large h = record { answer = simp tests; output = refl }

  pub no_room : length form ≤ 1073741824 → length out < length form → Emitted form out out (Err (refusal Room 0))
  unfolding settled room_verdict
  no_room h l = record { answer = simp tests; output = refl }

  pub written : (n : ℕ) (p : List ℕ) → n ≡ length form → length form ≤ 1073741824 → length form ≤ length out → p ≡ form → Emitted form out (p ++ drop n out) (Ok n)
  unfolding settled room_verdict
  written n p e h l q = record { answer = simp (tests, e); output = rw q }

pub bloom-large : (frame : Frame) → Shaped frame.shape → (rows : List Row) → 1073741824 < length frame.bloom.now → 1073741824 < length (form_in frame rows)
bloom-large frame wf rows h = omega (arith, form-length frame.shape wf frame.heading frame.bloom.now rows)
