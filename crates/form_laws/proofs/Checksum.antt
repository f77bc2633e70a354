-- A form is bytes, and so its checksum fits its field.
-- Assumes nothing.
use Prim.Native.Nat.{ℕ, zero, suc, ◌/◌, ◌%◌, ◌^◌, ◌<◌}
use mathlib.Core.Path.{◌≡◌}
use mathlib.Core.Logic.{by_cases}
use mathlib.Core.List.{List, [], ◌∷◌, ◌++◌}
use native.Mathlib.Decide.{ℕ_discrete}
use native.Mathlib.Omega.{arith}
use lib.Bits.{xor_lt}
use lib.Dec.{lit<}
use lib.ListN.{length, replicate}
use Rattle.numbers.specs.Numbers.{bytes_of, Bytes}
use Rattle.numbers.proofs.NumberLaws.{below-append}
use Rattle.crc64.specs.Crc.{poly, ones, step, steps, byte, run, crc}
use Rattle.crc64.proofs.CrcLaws.{step-odd, step-even}
use Rattle.segment.specs.declared.header.Header.{Header}
use Rattle.segment.specs.declared.header.Heading.{Heading}
use Rattle.segment.specs.declared.extent.Extent.{Extent}
use Rattle.segment.specs.declared.shape.Shape.{Shape}
use Rattle.segment.specs.Meaning.{Row, row_extents}
use Rattle.segment.specs.Tidy.{
  Field,
  packed,
  header_fields,
  record_fields,
  extent_fields,
  record_for,
  records_bytes,
  digest_bytes,
  lacking,
  digest_section,
  extent_list_bytes,
  extent_bytes,
  form_header,
  form_body,
  form_of,
}
use Rattle.lists.specs.Lists.{Each}
use Rattle.form_laws.specs.Form.{Writable}

-- ---- bytes

record AreBytes (xs : List ℕ) : Type 0 where
  bytes : Bytes xs

none : AreBytes []
none = record { bytes = λ i. lit< tt }

one_more : {x : ℕ} {xs : List ℕ} → x < 256 → AreBytes xs → AreBytes (x ∷ xs)
one_more {x} {xs} h p = record { bytes = go }
  where
    go : Bytes (x ∷ xs)
    go zero = h
    go (suc i) = p.bytes i

joined : {xs ys : List ℕ} → AreBytes xs → AreBytes ys → AreBytes (xs ++ ys)
joined {xs} {ys} p q = record { bytes = below-append 256 xs ys p.bytes q.bytes }

number : (n v : ℕ) → AreBytes (bytes_of n v)
unfolding bytes_of
number zero v = none
number (suc n) v = one_more (omega arith) (number n (v / 256))

zeros : (n : ℕ) → AreBytes (replicate n 0)
zeros zero = none
zeros (suc n) = one_more (lit< tt) (zeros n)

fields : (fs : List Field) → AreBytes (packed fs)
unfolding packed
fields [] = none
fields (f ∷ fs) = joined (number f.width f.value) (fields fs)

records : (sh : Shape) (domain : ℕ) (rs : List Row) (d e : ℕ) → AreBytes (records_bytes sh domain rs d e)
unfolding records_bytes
records sh domain [] d e = none
records sh domain (r ∷ rs) d e = joined (fields (record_fields sh (record_for domain r d e))) (records sh domain rs _ _)

extents : (es : List Extent) → AreBytes (extent_list_bytes es)
unfolding extent_list_bytes
extents [] = none
extents (e ∷ es) = joined (fields (extent_fields e)) (extents es)

all-extents : (rs : List Row) → AreBytes (extent_bytes rs)
unfolding extent_bytes
all-extents [] = none
all-extents (r ∷ rs) = joined (extents (row_extents r)) (all-extents rs)

module _ (sh : Shape) (pairs : List ℕ) where
  digests : (rs : List Row) → Each (Writable sh pairs) rs → AreBytes (digest_bytes rs)
  unfolding digest_bytes Each
  digests [] w = none
  digests (r ∷ rs) w = joined {xs = r.key.digest} (record { bytes = w.0.digest }) (digests rs w.1)

  module _ (t : Heading) (bloom : List ℕ) (rs : List Row) (b : Bytes bloom) (w : Each (Writable sh pairs) rs) where
    body : AreBytes (form_body sh t bloom rs)
    unfolding form_body digest_section
    body =
        let h : Header = form_header sh t (length bloom) rs in
        let section : AreBytes (digest_section rs) = joined (digests rs w) (zeros (lacking (length (digest_bytes rs)))) in
        joined (fields (header_fields h))
        (joined {xs = bloom} (record { bytes = b })
        (joined (records sh t.domain rs h.digests_offset.0 h.extents_offset.0) (joined section (all-extents rs))))

    pub body_bytes : Bytes (form_body sh t bloom rs)
    body_bytes = body.bytes

    pub form-bytes : Bytes (form_of sh t bloom rs)
    unfolding form_of
    form-bytes = (joined body (fields _)).bytes

-- ---- the checksum

step_fits : (c : ℕ) → c < 2 ^ 64 → step c < 2 ^ 64
step_fits c h =
    by_cases (ℕ_discrete (c % 2) 1)
    (λ (o : c % 2 ≡ 1). rw (step-odd c o) (xor_lt 64 (c / 2) poly (omega arith) (lit< tt)))
    (λ (o : ¬ (c % 2 ≡ 1)). rw (step-even c o) (omega arith))

steps-fit : (n c : ℕ) → c < 2 ^ 64 → steps n c < 2 ^ 64
unfolding steps
steps-fit zero c h = h
steps-fit (suc n) c h = step_fits (steps n c) (steps-fit n c h)

run_fits : (s : List ℕ) (c : ℕ) → Bytes s → c < 2 ^ 64 → run c s < 2 ^ 64
unfolding run byte
run_fits [] c b h = h
run_fits (x ∷ s) c b h =
    run_fits s (byte c x) (λ i. b (suc i)) (steps-fit 8 _ (xor_lt 64 c x h (omega (arith, b 0))))

pub crc-fits : (s : List ℕ) → Bytes s → crc s < 2 ^ 64
unfolding crc
crc-fits s b = xor_lt 64 (run ones s) ones (run_fits s ones b (lit< tt)) (lit< tt)
