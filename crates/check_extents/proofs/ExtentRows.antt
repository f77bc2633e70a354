-- The rows of a record's tables, 9 by the rule book and 10, and the sum over its extents. Each premise is as the code's test or call leaves it.
-- Assumes nothing.
use Prim.Native.Nat.{ℕ, suc, ◌+◌, ◌-◌, ◌*◌, ◌%◌, ◌≤◌, ◌<◌}
use mathlib.Core.Path.{◌≡◌, sym, ◌∙◌}
use mathlib.Core.Bool.{true, false}
use mathlib.Core.List.{List, ◌∷◌}
use native.Mathlib.Omega.{arith}
use borrow.Author.Tests.{ltb-true, ltb-false}
use lib.Dec.{ltb}
use Rattle.std.specs.Prelude.{Err, None, Some}
use Rattle.answer.specs.Rules.{accepted}
use Rattle.numbers.specs.Numbers.{num_at}
use Rattle.answer.specs.declared.Rule.TheVariants.{Extents, Total}
use Rattle.answer.specs.Answers.{refusal}
use Rattle.lists.proofs.Tests.{tests, by-test}
use Rattle.segment.specs.declared.header.Header.{Header}
use Rattle.segment.specs.declared.record.Record.{Record}
use Rattle.segment.specs.declared.extent.Extent.{Extent}
use Rattle.segment.specs.declared.shape.Shape.{Shape}
use Rattle.segment.specs.Format.{block_end, extents_offset, extent_count, extent_of, extents_at, extents_in}
use Rattle.segment.specs.Check.{all_fit, sum_lengths, extents_verdict, live_total, total_verdict}
use Rattle.segment.specs.Meets.{ExtentsMeet}
use Rattle.check_book.proofs.TablesRecord.{extents-book, extents-refuses}
use Rattle.check_extents.specs.ExtentRules.{summed}

-- ---- 9

module _ (h : Header) (r : Record) (k : ℕ) where
  extents-wrong : ¬ ExtentsMeet h r → Err (refusal Extents k) ≡ extents_verdict h r k
  extents-wrong n = sym (extents-refuses h r k n)

  module _ (g : r.flags ≡ 1) where
    pub gone-placed : (r.extents_offset.0 ≡ 0 → ⊥) → Err (refusal Extents k) ≡ extents_verdict h r k
    gone-placed n = extents-wrong (λ m. n (m.gone g).offset)

    pub gone-some : (r.extent_count ≡ 0 → ⊥) → Err (refusal Extents k) ≡ extents_verdict h r k
    gone-some n = extents-wrong (λ m. n (m.gone g).count)

    pub gone-accepted : r.extents_offset.0 ≡ 0 → r.extent_count ≡ 0 → accepted ≡ extents_verdict h r k
    gone-accepted a b = sym ((extents-book h r k).1 (record { gone = λ _. record { offset = a; count = b }; live = λ n. absurd (n g) }))

  module _ (g : r.flags ≡ 1 → ⊥) where
    pub live-none : r.extent_count < 1 → Err (refusal Extents k) ≡ extents_verdict h r k
    live-none l = extents-wrong (λ m. omega (arith, (m.live g).some))

    pub live-before : r.extents_offset.0 < extents_offset h → Err (refusal Extents k) ≡ extents_verdict h r k
    live-before l = extents-wrong (λ m. omega (arith, (m.live g).starts))

    pub live-between : ((r.extents_offset.0 - extents_offset h) % 16 ≡ 0 → ⊥) → Err (refusal Extents k) ≡ extents_verdict h r k
    live-between n = extents-wrong (λ m. n (m.live g).aligned)

    pub live-after : extents_offset h + 16 * extent_count h < r.extents_offset.0 → Err (refusal Extents k) ≡ extents_verdict h r k
    live-after l = extents-wrong (λ m. omega (arith, (m.live g).ends))

    module _ (d : r.extents_offset.0 ≤ extents_offset h + 16 * extent_count h) where
      pub live-past : extents_offset h + 16 * extent_count h - r.extents_offset.0 < 16 * r.extent_count
          → Err (refusal Extents k) ≡ extents_verdict h r k
      live-past l = extents-wrong (λ m. omega (arith, (m.live g).ends))

      pub live-accepted : 1 ≤ r.extent_count → extents_offset h ≤ r.extents_offset.0 → (r.extents_offset.0 - extents_offset h) % 16 ≡ 0
          → 16 * r.extent_count ≤ extents_offset h + 16 * extent_count h - r.extents_offset.0 → accepted ≡ extents_verdict h r k
      live-accepted a b c l =
          sym ((extents-book h r k).1 (record { gone = λ y. absurd (g y); live = λ _. record { some = a; starts = b; aligned = c; ends = omega arith } }))

pub ruleset extents-rows = (
  gone-placed,
  gone-some,
  gone-accepted,
  live-none,
  live-before,
  live-between,
  live-after,
  live-past,
  live-accepted,
)

-- ---- the sum over extents

-- a loop over the extents has come to i with the sum so far: what is left of them decides
pub record Summing (s : List ℕ) (at count i sum : ℕ) : Type 0 where
  pub within : i ≤ count
  pub fits : all_fit (extents_at s at count) ≡ all_fit (extents_at s (at + 16 * i) (count - i))
  pub sums : sum_lengths (extents_at s at count) ≡ sum + sum_lengths (extents_at s (at + 16 * i) (count - i))
  pub small : sum ≤ 4294967295 * i

pub sum-start : (s : List ℕ) (at count : ℕ) → Summing s at count 0 0
sum-start s at count =
    let e : at + 16 * 0 ≡ at = omega arith in
    let f : count - 0 ≡ count = omega arith in
    record { within = omega arith; fits = rw (e, f); sums = rw (e, f) (omega arith); small = omega arith }

next-extent : (s : List ℕ) (at count i : ℕ) → i < count
    → extents_at s (at + 16 * i) (count - i) ≡ extent_of s (at + 16 * i) ∷ extents_at s (at + 16 * (i + 1)) (count - (i + 1))
unfolding extents_at
next-extent s at count i h =
    let e : count - i ≡ suc (count - (i + 1)) = omega arith in
    let f : at + 16 * (i + 1) ≡ at + 16 * i + 16 = omega arith in
    rw (e, f)

module _ (s : List ℕ) (at count i sum offset size : ℕ) (v : Summing s at count i sum) (h : i < count) (p : offset ≡ num_at 4 s (at + 16 * i + 8))
    (q : size ≡ num_at 4 s (at + 16 * i + 12)) where
  rest : List Extent
  rest = extents_at s (at + 16 * (i + 1)) (count - (i + 1))

  pub sum_past : ltb block_end (offset + size) ≡ true → None ≡ summed (extents_at s at count)
  unfolding summed all_fit extent_of
  sum_past t =
      let l : 4294967296 < offset + size = ltb-true 4294967296 (offset + size) t in
      rw (v.fits, next-extent s at count i h, ← p, ← q) (simp tests)

  pub sum_more : ltb block_end (offset + size) ≡ false → size ≤ 4294967295 → Summing s at count (i + 1) (sum + size)
  unfolding rest all_fit sum_lengths extent_of
  sum_more t m =
      let l : offset + size ≤ 4294967296 = ltb-false 4294967296 (offset + size) t in
      record {
        within = omega arith;
        fits = v.fits ∙ rw (next-extent s at count i h, ← p, ← q) (simp tests);
        sums =
            let e : sum_lengths (extents_at s (at + 16 * i) (count - i)) ≡ size + sum_lengths rest = rw (next-extent s at count i h, ← q) in
            v.sums ∙ rw e (omega arith);
        small = omega (arith, v.small);
      }

pub sum_done : (s : List ℕ) (at count i sum : ℕ) → Summing s at count i sum → count ≤ i → Some sum ≡ summed (extents_at s at count)
unfolding summed all_fit sum_lengths extents_at
sum_done s at count i sum v h =
    let e : count - i ≡ 0 = omega arith in
    let f : all_fit (extents_at s at count) ≡ true = v.fits ∙ rw e in
    let g : sum_lengths (extents_at s at count) ≡ sum = v.sums ∙ rw e (omega arith) in
    rw (f, g)

-- ---- 10

not-fit : (es : List Extent) → None ≡ summed es → all_fit es ≡ false
unfolding summed
not-fit es e = by-test (all_fit es) (λ f. let q : None ≡ Some (sum_lengths es) = e ∙ rw f in cc) (λ f. f)

all-fit : (es : List Extent) (sum : ℕ) → Some sum ≡ summed es → all_fit es ≡ true
unfolding summed
all-fit es sum e = by-test (all_fit es) (λ f. f) (λ f. let q : Some sum ≡ None = e ∙ rw f in cc)

sum_is : (es : List Extent) (sum : ℕ) → Some sum ≡ summed es → sum_lengths es ≡ sum
unfolding summed
sum_is es sum e =
    let q : Some sum ≡ Some (sum_lengths es) = e ∙ rw (all-fit es sum e) in
    cc

module _ (sh : Shape) (s : List ℕ) (r : Record) (k : ℕ) where
  module _ (g : r.flags ≡ 1) where
    pub gone-total : (r.total_length ≡ 0 → ⊥) → Err (refusal Total k) ≡ total_verdict sh s r k
    unfolding total_verdict
    gone-total a = simp tests

    pub gone-none : r.total_length ≡ 0 → accepted ≡ total_verdict sh s r k
    unfolding total_verdict
    gone-none a = simp tests

  module _ (g : r.flags ≡ 1 → ⊥) where
    pub total-past : None ≡ summed (extents_in s r) → Err (refusal Total k) ≡ total_verdict sh s r k
    unfolding total_verdict live_total
    total-past e = rw (not-fit (extents_in s r) e) (simp tests)

    module _ (sum : ℕ) (e : Some sum ≡ summed (extents_in s r)) where
      pub total-great : sh.total_limit < sum → Err (refusal Total k) ≡ total_verdict sh s r k
      unfolding total_verdict live_total
      total-great a = rw (all-fit (extents_in s r) sum e, sum_is (extents_in s r) sum e) (simp tests)

      pub total-differs : sum ≤ sh.total_limit → (sum ≡ r.total_length → ⊥) → Err (refusal Total k) ≡ total_verdict sh s r k
      unfolding total_verdict live_total
      total-differs a b = rw (all-fit (extents_in s r) sum e, sum_is (extents_in s r) sum e) (simp tests)

      pub total-accepted : sum ≤ sh.total_limit → sum ≡ r.total_length → accepted ≡ total_verdict sh s r k
      unfolding total_verdict live_total
      total-accepted a b = rw (all-fit (extents_in s r) sum e, sum_is (extents_in s r) sum e) (simp tests)
