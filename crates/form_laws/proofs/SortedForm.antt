-- Rows in another order: what may be written stays so, and its form is as long.
--   tidy-length    how long a tidy form is
--   tidy-form      a meaning that tidies is written in its tidy form
--   tidy-bytes     which is bytes
-- Assumes nothing.
use Prim.Native.Nat.{ℕ, ◌+◌, ◌*◌}
use mathlib.Core.Path.{◌≡◌, refl, sym, ◌∙◌}
use mathlib.Core.HLevel.{¬_prop}
use mathlib.Core.Logic.{◌≢◌}
use mathlib.Core.List.Permᴰ
use mathlib.Core.List.{List, Permᴰ}
use native.Mathlib.Omega.{arith}
use lib.ListN.{length, length-append}
use Rattle.numbers.specs.Numbers.{Bytes}
use Rattle.segment.specs.declared.header.Heading.{Heading}
use Rattle.segment.specs.declared.shape.Shape.{Shape}
use Rattle.lists.specs.Lists.{sort_by}
use Rattle.segment.specs.Meaning.{Row, row_key, Meaning}
use Rattle.segment.specs.Tidy.{digest_bytes, digest_section, extent_total, row_leq, tidy_form}
use Rattle.lists.proofs.Each.{each-permuted}
use Rattle.lists.proofs.Arranged.{sort-permutes}
use Rattle.form_laws.specs.Form.{Writable, Contents, Form, Tidies}
use Rattle.segment.specs.Shapes.{Shaped}
use Rattle.form_laws.proofs.Sizes.{section-long, form-length}
use Rattle.form_laws.proofs.Checksum.{form-bytes}

-- as many rows, bytes of digests and extents
record SameSize (xs ys : List Row) : Type 0 where
  rows : length xs ≡ length ys
  digests : length (digest_bytes xs) ≡ length (digest_bytes ys)
  extents : extent_total xs ≡ extent_total ys

permuted-size : {xs ys : List Row} → Permᴰ xs ys → SameSize xs ys
unfolding digest_bytes extent_total
permuted-size Permᴰ.nil = record { rows = refl; digests = refl; extents = refl }
permuted-size (Permᴰ.cons e p) =
    let same = permuted-size p in
    rw e (record { rows = omega arith; digests = simp length-append (omega arith); extents = omega arith })
permuted-size (Permᴰ.swap e f) =
    rw (← e, ← f) (record { rows = refl; digests = simp length-append (omega arith); extents = omega arith })
permuted-size (Permᴰ.trans p q) =
    let first = permuted-size p in
    let second = permuted-size q in
    record { rows = omega arith; digests = omega arith; extents = omega arith }

pub contents-permuted : (sh : Shape) (pairs : List ℕ) (t : Heading) (bloom : List ℕ) {xs ys : List Row} → Permᴰ xs ys → Contents sh pairs t bloom xs
    → Contents sh pairs t bloom ys
contents-permuted sh pairs t bloom p c = record {
  heading = c.heading;
  bloom_bytes = c.bloom_bytes;
  bloom_divides = c.bloom_divides;
  few = omega (arith, c.few, (permuted-size p).rows);
  each = each-permuted (Writable sh pairs) p c.each;
  apart = Permᴰ.pairwise {R = λ (a b : Row). row_key a ≢ row_key b} (λ a b. ¬_prop) (λ a b n e. n (sym e)) p c.apart;
}

module _ (sh : Shape) (m : Meaning) where
  sorted : Permᴰ m.records (sort_by row_leq m.records)
  sorted = Permᴰ.symm (sort-permutes row_leq m.records)

  -- so the tidy form's length is told from the rows as they stand
  pub tidy-length : Shaped sh → length (tidy_form sh m)
      ≡ 112 + length m.bloom + sh.record_size * length m.records + length (digest_section m.records) + 16 * extent_total m.records + 24
  unfolding tidy_form
  tidy-length k =
      let rs = sort_by row_leq m.records in
      let same = permuted-size sorted in
      form-length sh k m.heading m.bloom rs
      ∙ rw (section-long rs, section-long m.records, same.rows, same.digests, same.extents)

  pub tidy-form : (pairs : List ℕ) → Tidies sh pairs m → Form sh pairs m.heading m.bloom (sort_by row_leq m.records)
  unfolding tidy_form
  tidy-form pairs w = record { contents = contents-permuted sh pairs m.heading m.bloom sorted w.contents; fits = w.fits }

  pub tidy-bytes : (pairs : List ℕ) → Contents sh pairs m.heading m.bloom m.records → Bytes (tidy_form sh m)
  unfolding tidy_form
  tidy-bytes pairs c =
      form-bytes sh pairs m.heading m.bloom (sort_by row_leq m.records) c.bloom_bytes (each-permuted (Writable sh pairs) sorted c.each)
