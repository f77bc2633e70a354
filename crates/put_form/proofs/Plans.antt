-- Where a plan lays the sections: one behind the other, as the form's header says.
-- Assumes nothing.
use Prim.Native.Nat.{ℕ, ◌+◌, ◌*◌}
use mathlib.Core.Path.{◌≡◌, ap, ◌∙◌}
use mathlib.Core.List.{List}
use native.Mathlib.Omega.{arith}
use lib.ListN.{length}
use Rattle.segment.specs.declared.header.Header.{Header}
use Rattle.segment.specs.declared.shape.Shape.{Shape}
use Rattle.segment.specs.Format.{records_offset, digests_offset, extents_offset, extent_count}
use Rattle.segment.specs.Shapes.{Shaped}
use Rattle.segment.specs.Meaning.{Row}
use Rattle.segment.specs.Tidy.{digest_section, extent_total, form_header}
use Rattle.form_laws.proofs.Sizes.{form-length}
use Rattle.put_form.specs.Emit.{Plan}

pub record Planned (sh : Shape) (h : Header) (rows : List Row) (n : ℕ) : Type 0 where
  pub digests : digests_offset h ≡ records_offset h + sh.record_size * length rows
  pub size : h.digests_size ≡ length (digest_section rows)
  pub extents : extents_offset h ≡ digests_offset h + length (digest_section rows)
  pub count : extent_count h ≡ extent_total rows
  pub file : n ≡ extents_offset h + 16 * extent_count h + 24

pub planned : {sh : Shape} {h : Header} {rows : List Row} {used n : ℕ} → Shaped sh → Plan sh h rows used n → Planned sh h rows n
unfolding form_header
planned {sh} {h} {rows} w q =
    let e = q.header in
    let x = form-length sh w q.heading q.bloom rows in
    let r : records_offset h ≡ 112 + length q.bloom = ap (λ (y : Header). records_offset y) e in
    let d : digests_offset h ≡ 112 + length q.bloom + sh.record_size * length rows = ap (λ (y : Header). digests_offset y) e in
    let s : extents_offset h ≡ 112 + length q.bloom + sh.record_size * length rows + length (digest_section rows) = ap (λ (y : Header). extents_offset y) e in
    let c : extent_count h ≡ extent_total rows = ap (λ (y : Header). extent_count y) e in
    let z : h.digests_size ≡ length (digest_section rows) = ap (λ (y : Header). y.digests_size) e in
    record { digests = omega arith; size = z; extents = omega arith; count = c; file = q.file ∙ omega arith }
