-- The tables of 7 to 10 and their rules, over one record: each accepts exactly when its rules are kept, and where they are the first that are broken
-- it gives its refusal.
-- Assumes nothing.
use Prim.Native.Nat.{ℕ, zero, suc, ◌+◌, ◌*◌, ◌≤◌, ◌<◌}
use mathlib.Core.Path.{◌≡◌, refl}
use mathlib.Core.Bool.{true, cond}
use mathlib.Core.Logic.Iff
use mathlib.Core.Logic.{◌↔◌, by_cases}
use mathlib.Core.List.{List}
use native.Mathlib.Decide.{ℕ_discrete}
use native.Mathlib.Nat.{not-suc-le-zero}
use native.Mathlib.Omega.{arith}
use borrow.Author.Tests.{eq-eqb, ne_eqb}
use Rattle.std.specs.Prelude.{Err}
use Rattle.answer.specs.Rules.{Verdict, accepted}
use Rattle.answer.specs.declared.Rule.TheVariants.{Record as RecordWrong, Digest, Extents, Total}
use Rattle.answer.specs.Answers.{refusal}
use Rattle.lists.proofs.Tests.{and-iff, or-iff, leb-iff}
use Rattle.answer.proofs.Order.{then-accepted, rows}
use Rattle.segment.specs.declared.header.Header.{Header}
use Rattle.segment.specs.declared.record.Record.{Record}
use Rattle.segment.specs.declared.shape.Shape.{Shape}
use Rattle.segment.specs.Format.{block_end, extent_of, extents_at, extents_in, record_no}
use Rattle.segment.specs.Check.{
  marks_verdict,
  digest_verdict,
  gone_extents,
  live_extents,
  is_gone,
  extents_verdict,
  all_fit,
  live_total,
  total_verdict,
  record_rules,
  record_verdict,
}
use Rattle.segment.specs.Meets.{MarksMeet, DigestMeets, GoneMeets, LiveMeets, ExtentsMeet, SumMeets, TotalMeets, RecordMeets}
use Rattle.check_book.proofs.OneRefusal.{only-rows, broken}

-- ---- 7

module _ (h : Header) (r : Record) (k : ℕ) where
  pub marks-book : marks_verdict h r k ≡ accepted ↔ MarksMeet h r
  unfolding marks_verdict
  marks-book =
      simp (or-iff, rows) (
        λ a. record {
          reserved = a.0;
          reserved_last = a.1.0;
          flags = a.1.1.0;
          visibility = a.1.1.1.0;
          imported = a.1.1.1.1.0;
          source = λ z. a.1.1.1.1.1.0 (λ i. omega arith);
          domain = a.1.1.1.1.1.1;
        },
        λ m. (m.reserved, (m.reserved_last, (m.flags, (m.visibility, (m.imported, (λ n. m.source (omega arith), m.domain)))))),
      )

  pub marks-refuses : ¬ MarksMeet h r → marks_verdict h r k ≡ Err (refusal RecordWrong k)
  unfolding marks_verdict
  marks-refuses = broken (search only-rows depth 9) marks-book

-- ---- 8

module _ (pairs : List ℕ) (h : Header) (r : Record) (k : ℕ) where
  pub digest-book : digest_verdict pairs h r k ≡ accepted ↔ DigestMeets pairs h r
  unfolding digest_verdict
  digest-book = simp rows (λ a. search, λ m. search)

  pub digest-refuses : ¬ DigestMeets pairs h r → digest_verdict pairs h r k ≡ Err (refusal Digest k)
  unfolding digest_verdict
  digest-refuses = broken (search only-rows) digest-book

-- ---- 9

-- the one rule for a gone record, the other for any other
by-gone : (r : Record) {v w : Verdict} {G L : Type 0} → v ≡ accepted ↔ G → w ≡ accepted ↔ L
    → cond (is_gone r) v w ≡ accepted ↔ (r.flags ≡ 1 → G) × (¬ (r.flags ≡ 1) → L)
by-gone r e f =
    by_cases (ℕ_discrete r.flags 1)
    (λ (g : r.flags ≡ 1). rw (eq-eqb r.flags 1 g) (λ a. (λ _. e.0 a, λ n. absurd (n g)), λ m. e.1 (m.0 g)))
    (λ (g : ¬ (r.flags ≡ 1)). rw (ne_eqb r.flags 1 g) (λ a. (λ y. absurd (g y), λ _. f.0 a), λ m. f.1 (m.1 g)))

gone-book : (r : Record) (k : ℕ) → gone_extents r k ≡ accepted ↔ GoneMeets r
unfolding gone_extents
gone-book r k = simp rows (omega arith)

live-book : (h : Header) (r : Record) (k : ℕ) → live_extents h r k ≡ accepted ↔ LiveMeets h r
unfolding live_extents
live-book h r k = simp rows (omega arith)

module _ (h : Header) (r : Record) (k : ℕ) where
  pub extents-book : extents_verdict h r k ≡ accepted ↔ ExtentsMeet h r
  unfolding extents_verdict
  extents-book =
      Iff.trans (by-gone r (gone-book r k) (live-book h r k)) (λ a. record { gone = a.0; live = a.1 }, λ m. (m.gone, m.live))

  pub extents-refuses : ¬ ExtentsMeet h r → extents_verdict h r k ≡ Err (refusal Extents k)
  unfolding extents_verdict gone_extents live_extents
  extents-refuses = broken (search only-rows depth 7) extents-book

-- ---- 10

-- the extent at a place lies inside its block
abbrev Inside : List ℕ → ℕ → Type 0
Inside s at = (extent_of s at).offset.0 + (extent_of s at).length ≤ block_end

-- the first extent and those after it
inside-iff : (s : List ℕ) (at n : ℕ)
    → Inside s at × ((j : ℕ) → j < n → Inside s (at + 16 + 16 * j)) ↔ ((j : ℕ) → j < suc n → Inside s (at + 16 * j))
inside-iff s at n = (all, split)
  where
    first : at + 16 * 0 ≡ at
    first = omega arith

    next : (j : ℕ) → at + 16 * suc j ≡ at + 16 + 16 * j
    next j = omega arith

    all : Inside s at × ((j : ℕ) → j < n → Inside s (at + 16 + 16 * j)) → (j : ℕ) → j < suc n → Inside s (at + 16 * j)
    all f zero l = rw first f.0
    all f (suc j) l = rw (next j) (f.1 j (omega arith))

    split : ((j : ℕ) → j < suc n → Inside s (at + 16 * j)) → Inside s at × ((j : ℕ) → j < n → Inside s (at + 16 + 16 * j))
    split f = (rw first at (f 0 (omega arith)), λ j l. rw (next j) at (f (suc j) (omega arith)))

fits_iff : (s : List ℕ) (at n : ℕ) → all_fit (extents_at s at n) ≡ true ↔ ((j : ℕ) → j < n → Inside s (at + 16 * j))
unfolding extents_at all_fit
fits_iff s at zero = (λ e j l. absurd (not-suc-le-zero l), λ f. refl)
fits_iff s at (suc n) = simp (and-iff, leb-iff, fits_iff s (at + 16) n) (inside-iff s at n)

module _ (sh : Shape) (s : List ℕ) (r : Record) (k : ℕ) where
  sum-book : live_total sh (extents_in s r) r.total_length k ≡ accepted ↔ SumMeets sh s r
  unfolding live_total
  sum-book =
      simp (rows, fits_iff s r.extents_offset.0 r.extent_count)
      (λ a. record { fits = a.0; sum = a.1.1; total = omega arith }, λ m. (m.fits, (omega arith, m.sum)))

  pub total-book : total_verdict sh s r k ≡ accepted ↔ TotalMeets sh s r
  unfolding total_verdict
  total-book = Iff.trans (by-gone r (simp rows Iff.rfl) sum-book) (λ a. record { gone = a.0; live = a.1 }, λ m. (m.gone, m.live))

-- ---- one record

pub record-book : (sh : Shape) (pairs s : List ℕ) (h : Header) (k : ℕ)
    → record_verdict sh pairs s h k ≡ accepted ↔ RecordMeets sh pairs s h (record_no sh s h k)
unfolding record_verdict record_rules
record-book sh pairs s h k =
    simp (then-accepted, marks-book, digest-book, extents-book, total-book) (
      λ a. record { marks = a.0; digest = a.1.0; extents = a.1.1.0; total = a.1.1.1 },
      λ m. (m.marks, (m.digest, (m.extents, m.total))),
    )

-- which of them is the first that is broken
module _ (sh : Shape) (pairs s : List ℕ) (h : Header) (r : Record) (k : ℕ) where
  pub marks-broken : ¬ MarksMeet h r → record_rules sh pairs s h r k ≡ Err (refusal RecordWrong k)
  unfolding record_rules
  marks-broken n = rw (marks-refuses h r k n)

  module _ (m : MarksMeet h r) where
    pub digest-broken : ¬ DigestMeets pairs h r → record_rules sh pairs s h r k ≡ Err (refusal Digest k)
    unfolding record_rules
    digest-broken n = rw ((marks-book h r k).1 m, digest-refuses pairs h r k n)

    module _ (d : DigestMeets pairs h r) where
      pub extents-broken : ¬ ExtentsMeet h r → record_rules sh pairs s h r k ≡ Err (refusal Extents k)
      unfolding record_rules
      extents-broken n = rw ((marks-book h r k).1 m, (digest-book pairs h r k).1 d, extents-refuses h r k n)

      pub total-broken : ExtentsMeet h r → ¬ TotalMeets sh s r → record_rules sh pairs s h r k ≡ Err (refusal Total k)
      unfolding record_rules total_verdict live_total
      total-broken x n =
          let e : total_verdict sh s r k ≡ Err (refusal Total k) = broken (search only-rows) (total-book sh s r k) n in
          rw ((marks-book h r k).1 m, (digest-book pairs h r k).1 d, (extents-book h r k).1 x, e)
