-- The three sections, each lent its own stretch: each stretch is as long as its section.
-- Assumes nothing.
use Prim.Native.Nat.{ℕ, ◌+◌, ◌*◌}
use mathlib.Core.Path.{◌≡◌, refl, sym, ap, ◌∙◌}
use mathlib.Core.List.{List, [], ◌∷◌}
use native.Mathlib.Omega.{arith}
use lib.ListN.{length, length-map}
use Rattle.segment.specs.declared.header.Header.{Header}
use Rattle.segment.specs.declared.shape.Shape.{Shape}
use Rattle.segment.specs.Shapes.{Shaped}
use Rattle.segment.specs.Format.{records_offset, digests_offset}
use Rattle.segment.specs.Meaning.{Row}
use Rattle.segment.specs.Tidy.{digest_bytes, lacking, digest_section, extent_bytes}
use Rattle.form_laws.proofs.Sizes.{section-long, extent_bytes-long}
use Rattle.put_item.specs.declared.Source.{Source}
use Rattle.put_item.specs.Sources.{row_in, rows_in}
use Rattle.put_item.proofs.ItemRows.{row-digest}
use Rattle.put_sections.specs.Sections.{Near, item_digests, item_section, digests_in, section_in}
use Rattle.put_form.specs.Emit.{Plan}
use Rattle.put_form.proofs.Plans.{planned}

-- ---- the digests of items are those of their rows

module _ (source : Source) where
  digests-same : (numbers : List ℕ) → digests_in source.items numbers ≡ digest_bytes (rows_in source numbers)
  unfolding item_digests digest_bytes
  digests-same [] = refl
  digests-same (k ∷ ks) = rw (row-digest source.items.kind source.items.bytes.now source.items.list.now source.extents.now k, digests-same ks)

  pub section-same : (numbers : List ℕ) → section_in source.items numbers ≡ digest_section (rows_in source numbers)
  unfolding item_section digest_section
  section-same numbers = rw (digests-same numbers)

-- ---- the stretches

-- n bytes are the three sections, and each stretch is as long as its section
pub record Stretches (sh : Shape) (h : Header) (source : Source) (numbers : List ℕ) (used n : ℕ) : Type 0 where
  pub near : Near h numbers
  pub filled : used ≡ length (digests_in source.items numbers)
  pub records : digests_offset h ≡ records_offset h + sh.record_size * length numbers
  pub digests : h.digests_size ≡ used + lacking used
  pub extents : n ≡ sh.record_size * length numbers + h.digests_size + length (extent_bytes (rows_in source numbers))

module _ (sh : Shape) (wf : Shaped sh) (h : Header) (source : Source) (numbers : List ℕ) (used n : ℕ) where
  abbrev rows : List Row
  rows = rows_in source numbers

  rows-many : length rows ≡ length numbers
  rows-many = length-map numbers (row_in source)

  pub stretches : Plan sh h rows used (records_offset h + n + 24) → Stretches sh h source numbers used n
  stretches q =
      let t = planned wf q in
      let many : sh.record_size * length rows ≡ sh.record_size * length numbers = ap (λ (m : ℕ). sh.record_size * m) rows-many in
      record {
        near = record {
          few = omega (arith, q.few, rows-many);
          digests = omega (arith, t.extents, t.file, q.limit);
          extents = omega (arith, t.file, q.limit);
        };
        filled = q.filled ∙ ap length (sym (digests-same source numbers));
        records = omega (arith, t.digests, many);
        digests = rw q.filled (omega (arith, t.size, section-long rows));
        extents = omega (arith, t.file, t.digests, t.size, t.extents, many, t.count, extent_bytes-long rows);
      }
