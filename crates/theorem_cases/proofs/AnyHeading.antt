-- A heading whose numbers pass their fields is written as the one that they are cut to, so a form of any heading is that of one that fits.
-- Assumes nothing.
use Prim.Native.Nat.{ℕ, ◌%◌, ◌^◌}
use mathlib.Core.Path.{◌≡◌, refl}
use mathlib.Core.List.{List, [], ◌∷◌}
use native.Mathlib.Omega.{arith}
use lib.ListN.{length}
use Rattle.numbers.proofs.NumberLaws.{bytes_of_mod}
use Rattle.segment.specs.declared.header.Heading.{Heading}
use Rattle.segment.specs.Format.{v3}
use Rattle.segment.specs.Meaning.{Row}
use Rattle.segment.specs.Tidy.{packed, header_fields, record_fields, record_for, footer_fields, records_bytes, form_header, form_body, form_of}
use Rattle.form_laws.specs.Form.{HeadingWritable}

abbrev pub cut : Heading → Heading
cut t = record {
  shard = t.shard % 256 ^ 2;
  snapshot_min = t.snapshot_min % 256 ^ 8;
  snapshot_max = t.snapshot_max % 256 ^ 8;
  domain = t.domain % 256 ^ 4;
  seal_snapshot = t.seal_snapshot % 256 ^ 8;
  seal_time = t.seal_time % 256 ^ 8;
}

pub cut_fits : (t : Heading) → HeadingWritable (cut t)
cut_fits t = record {
  shard = omega arith;
  snapshot_min = omega arith;
  snapshot_max = omega arith;
  domain = omega arith;
  seal_snapshot = omega arith;
  seal_time = omega arith;
}

module _ (t : Heading) (bloom : List ℕ) (rows : List Row) where
  header-cut : (n : ℕ) → packed (header_fields (form_header v3 (cut t) n rows)) ≡ packed (header_fields (form_header v3 t n rows))
  unfolding packed header_fields form_header
  header-cut n =
      rw (bytes_of_mod 2 t.shard, bytes_of_mod 8 t.snapshot_min, bytes_of_mod 8 t.snapshot_max, bytes_of_mod 4 t.domain)

  records-cut : (rs : List Row) (digestAt extents_at : ℕ) → records_bytes v3 (cut t).domain rs digestAt extents_at ≡ records_bytes v3 t.domain rs digestAt extents_at
  unfolding records_bytes packed record_fields record_for
  records-cut [] digestAt extents_at = refl
  records-cut (r ∷ rs) digestAt extents_at = rw (bytes_of_mod 4 t.domain, records-cut rs _ _)

  body-cut : form_body v3 (cut t) bloom rows ≡ form_body v3 t bloom rows
  unfolding form_body form_header
  body-cut = rw (header-cut (length bloom), records-cut rows _ _)

  pub form-cut : form_of v3 (cut t) bloom rows ≡ form_of v3 t bloom rows
  unfolding form_of packed footer_fields
  form-cut = rw (body-cut, bytes_of_mod 8 t.seal_snapshot, bytes_of_mod 8 t.seal_time)
