-- Where the layout rules hold, header, sections and footer account for each byte once: each begins where the one before it ends, and the last ends with the
-- file.
-- Assumes nothing.
use Prim.Native.Nat.{ℕ, ◌+◌, ◌-◌, ◌*◌, ◌≤◌}
use mathlib.Core.Path.{◌≡◌, refl, sym, ap, ◌∙◌}
use mathlib.Core.Logic.{by_cases}
use mathlib.Core.List.{List, ◌++◌}
use native.Mathlib.Decide.{ℕ_discrete}
use native.Mathlib.Omega.{arith}
use lib.ListN.{length, take, drop, length-drop, take-append-drop}
use lib.Seq.{length-take-le, take_all, drop-drop, take-append-le, drop-append-le}
use Rattle.numbers.specs.Numbers.{le, num_at}
use Rattle.segment.specs.declared.header.Header.{Header}
use Rattle.segment.specs.Format.{
  v3,
  header_of,
  record_count,
  records_offset,
  bloom_size,
  digests_offset,
  digests_size,
  extents_offset,
  extent_count,
}
use Rattle.segment.specs.Check.{check_of}
use Rattle.segment.specs.Meets.{LayoutMeets}
use Rattle.theorem_demands.specs.Answered.{accepted}
use Rattle.theorem_demands.proofs.Rulebook.{accepts-iff}
use Rattle.theorem_meaning.specs.Accounts.{part, header_stretch, bloom_stretch, records_stretch, digests_stretch, extents_stretch, footer_stretch, EachByteOnce}

-- what is left from a place on is a part and what is left behind it
parted : (s : List ℕ) (at n next : ℕ) → at + n ≡ next → drop at s ≡ part s at n ++ drop next s
parted s at n next e = sym (take-append-drop n (drop at s)) ∙ ap (λ (rest : List ℕ). part s at n ++ rest) (drop-drop n at s ∙ ap (λ (k : ℕ). drop k s) e)

pub part-long : (s : List ℕ) (at n : ℕ) → at + n ≤ length s → length (part s at n) ≡ n
part-long s at n l = length-take-le n (drop at s) (simp length-drop (omega arith))

-- a number inside a part is the one that stands there in the whole
pub number-in-part : (n m a k : ℕ) (s : List ℕ) → k + n ≤ m → a + m ≤ length s → num_at n (part s a m) k ≡ num_at n s (a + k)
unfolding num_at
number-in-part n m a k s l u =
    let long : length (part s a m) ≡ m = part-long s a m u in
    let front : drop (a + k) s ≡ drop k (part s a m) ++ drop m (drop a s) =
    sym (drop-drop k a s) ∙ ap (drop k) (sym (take-append-drop m (drop a s))) ∙ drop-append-le k (part s a m) (drop m (drop a s)) (omega arith) in
    ap le (sym (ap (take n) front ∙ take-append-le n (drop k (part s a m)) (drop m (drop a s)) (rw length-drop (omega arith))))

module _ (s : List ℕ) (h : Header) (y : LayoutMeets v3 s h) where
  -- the bloom bytes stand behind the header; where there are none, their offset is 0 and they are none there too
  bloom-place : bloom_stretch s h ≡ part s 112 (bloom_size h)
  bloom-place =
      by_cases (ℕ_discrete (bloom_size h) 0)
      (λ (e : bloom_size h ≡ 0). rw (y.no_bloom e, e))
      (λ (n : ¬ (bloom_size h ≡ 0)). rw (y.bloom n))

  at_records : 112 + bloom_size h ≡ records_offset h
  at_records = sym y.records

  at-digests : records_offset h + 48 * record_count h ≡ digests_offset h
  at-digests = sym y.digests

  at-extents : digests_offset h + digests_size h ≡ extents_offset h
  at-extents = sym y.extents

  at-footer : extents_offset h + 16 * extent_count h ≡ length s - 24
  at-footer = omega (arith, y.file)

  last : drop (length s - 24) s ≡ footer_stretch s
  last = sym (take_all 24 (drop (length s - 24) s) (simp length-drop (omega arith)))

  pub each-byte-once : EachByteOnce s h
  each-byte-once = record {
    whole =
        parted s 0 112 112 refl
        ∙ ap (λ (z : List ℕ). header_stretch s ++ z)
        (parted s 112 (bloom_size h) (records_offset h) at_records
        ∙ rw (← bloom-place) (ap (λ (z : List ℕ). bloom_stretch s h ++ z)
        (parted s (records_offset h) (48 * record_count h) (digests_offset h) at-digests
        ∙ ap (λ (z : List ℕ). records_stretch s h ++ z)
        (parted s (digests_offset h) (digests_size h) (extents_offset h) at-extents
        ∙ ap (λ (z : List ℕ). digests_stretch s h ++ z)
        (parted s (extents_offset h) (16 * extent_count h) (length s - 24) at-footer
        ∙ ap (λ (z : List ℕ). extents_stretch s h ++ z) last)))));
    header = part-long s 0 112 (omega (arith, y));
    bloom = ap length bloom-place ∙ part-long s 112 (bloom_size h) (omega (arith, y));
    records = part-long s (records_offset h) (48 * record_count h) (omega (arith, y));
    digests = part-long s (digests_offset h) (digests_size h) (omega (arith, y));
    extents = part-long s (extents_offset h) (16 * extent_count h) (omega (arith, y));
    footer = part-long s (length s - 24) 24 (omega (arith, y));
  }

pub accepted-once : (pairs s : List ℕ) → check_of pairs s ≡ accepted → EachByteOnce s (header_of s)
accepted-once pairs s e = each-byte-once s (header_of s) ((accepts-iff pairs s).0 e).1.layout
