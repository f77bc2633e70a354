-- What was read out of bytes and is written again is those bytes: a number, the fields of a structure, each of the four structures, and extents one after the other.
-- Assumes nothing.
use Prim.Native.Nat.{ℕ, zero, suc, ◌+◌, ◌*◌, ◌≤◌}
use mathlib.Core.Path.{◌≡◌, refl, sym, ap, ap₂, ◌∙◌}
use mathlib.Core.List.{List, [], ◌∷◌, ◌++◌}
use native.Mathlib.Omega.{arith}
use lib.ListN.{length, take, drop}
use lib.Seq.{take-add, drop-drop}
use Rattle.numbers.specs.Numbers.{Bytes, num_at, bytes_of}
use Rattle.numbers.proofs.NumberLaws.{bytes_of-le, bytes_take, bytes_drop}
use Rattle.segment.specs.Format.{v3, header_of, record_of, extent_of, footer_of, extents_at}
use Rattle.segment.specs.Tidy.{Field, packed, header_fields, record_fields, extent_fields, footer_fields, extent_list_bytes}
use Rattle.form_laws.proofs.PackedFields.{widths}
use Rattle.theorem_meaning.specs.Accounts.{part}
use Rattle.theorem_meaning.proofs.Accounts.{part-long}

-- a part in two
pub part-add : (s : List ℕ) (a m n : ℕ) → part s a (m + n) ≡ part s a m ++ part s (a + m) n
part-add s a m n = take-add m n (drop a s) ∙ ap (λ (z : List ℕ). part s a m ++ take n z) (drop-drop m a s)

-- each field is the number that stands in the bytes of its width, from `at + off` on
unfoldable Reads : List ℕ → ℕ → ℕ → List Field → Type 0
Reads s at off [] = Unit
Reads s at off (f ∷ fs) = (f.value ≡ num_at f.width s (at + off)) × Reads s at (off + f.width) fs

module _ (s : List ℕ) (b : Bytes s) where
  number-part : (n at : ℕ) → at + n ≤ length s → bytes_of n (num_at n s at) ≡ part s at n
  unfolding num_at
  number-part n at l = rw (part-long s at n l) at (bytes_of-le (part s at n) (bytes_take n (drop at s) (bytes_drop at s b)))

  fields-part : (fs : List Field) (at off : ℕ) → at + off + widths fs ≤ length s → Reads s at off fs → packed fs ≡ part s (at + off) (widths fs)
  unfolding Reads packed widths
  fields-part [] at off l r = refl
  fields-part (f ∷ fs) at off l r =
      let next : at + (off + f.width) ≡ at + off + f.width = omega arith in
      let here : bytes_of f.width f.value ≡ part s (at + off) f.width = ap (bytes_of f.width) r.0 ∙ number-part f.width (at + off) (omega arith) in
      let there : packed fs ≡ part s (at + off + f.width) (widths fs) = rw next at (fields-part fs at (off + f.width) (omega arith) r.1) in
      ap₂ (λ (x y : List ℕ). x ++ y) here there ∙ sym (part-add s (at + off) f.width (widths fs))

  pub header-part : 112 ≤ length s → packed (header_fields (header_of s)) ≡ part s 0 112
  unfolding Reads widths header_fields header_of
  header-part l =
      fields-part (header_fields (header_of s)) 0 0 l
      (refl, (refl, (refl, (refl, (refl, (refl, (refl, (refl, (refl, (refl, (refl, (refl, (refl, (refl, (refl, (refl, (refl, (refl, (refl, tt)))))))))))))))))))

  module _ (at : ℕ) where
    start : at + 0 ≡ at
    start = omega arith

    pub record-part : at + 48 ≤ length s → packed (record_fields v3 (record_of v3 s at)) ≡ part s at 48
    unfolding Reads widths record_fields record_of
    record-part l =
        rw start at (fields-part (record_fields v3 (record_of v3 s at)) at 0 (omega arith)
        (ap (num_at 4 s) (sym start), (refl, (refl, (refl, (refl, (refl, (refl, (refl, (refl, (refl, (refl, (refl, (refl, tt))))))))))))))

    pub extent-part : at + 16 ≤ length s → packed (extent_fields (extent_of s at)) ≡ part s at 16
    unfolding Reads widths extent_fields extent_of
    extent-part l = rw start at (fields-part (extent_fields (extent_of s at)) at 0 (omega arith) (ap (num_at 8 s) (sym start), (refl, (refl, tt))))

    pub footer-part : at + 24 ≤ length s → packed (footer_fields (footer_of s at)) ≡ part s at 24
    unfolding Reads widths footer_fields footer_of
    footer-part l = rw start at (fields-part (footer_fields (footer_of s at)) at 0 (omega arith) (ap (num_at 8 s) (sym start), (refl, (refl, tt))))

  pub extents-part : (n at : ℕ) → at + 16 * n ≤ length s → extent_list_bytes (extents_at s at n) ≡ part s at (16 * n)
  unfolding extent_list_bytes extents_at
  extents-part zero at l = refl
  extents-part (suc n) at l =
      let more : 16 * suc n ≡ 16 + 16 * n = omega arith in
      rw more (ap₂ (λ (x y : List ℕ). x ++ y) (extent-part at (omega arith)) (extents-part n (at + 16) (omega arith)) ∙ sym (part-add s at 16 (16 * n)))
