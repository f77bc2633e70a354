-- The rows of a record's tables, 7 and 8, by the rule book: which verdict there is where a row's rule is broken, and where all are kept. Each premise
-- is as the code's test or call leaves it.
-- Assumes nothing.
use Prim.Native.Nat.{ℕ, ◌+◌, ◌-◌, ◌≤◌, ◌<◌}
use mathlib.Core.Path.{◌≡◌, sym}
use mathlib.Core.Bool.{Bool, true, false, not, ◌||◌}
use mathlib.Core.Logic.Iff
use mathlib.Core.Logic.{◌↔◌}
use mathlib.Core.List.{List}
use native.Mathlib.Omega.{arith}
use lib.Dec.{eqb}
use Rattle.std.specs.Prelude.{Err}
use Rattle.answer.specs.Rules.{accepted}
use Rattle.answer.specs.declared.Rule.TheVariants.{Record as RecordWrong, Digest}
use Rattle.answer.specs.Answers.{refusal}
use Rattle.lists.proofs.Tests.{tests, or-iff, eqb-iff, clash, was-true, was-false}
use Rattle.segment.specs.declared.header.Header.{Header}
use Rattle.segment.specs.declared.record.Record.{Record}
use Rattle.segment.specs.Format.{digests_offset, digests_size}
use Rattle.table.specs.Table.{allows}
use Rattle.segment.specs.Check.{marks_verdict, digest_verdict}
use Rattle.segment.specs.Meets.{MarksMeet, DigestMeets}
use Rattle.check_book.proofs.TablesRecord.{marks-book, marks-refuses, digest-book, digest-refuses}

-- ---- 7

pub imported-source : (imported source : ℕ) → imported ≡ 1 → true ≡ (eqb imported 1 || eqb source 0)
imported-source imported source e = simp tests

pub own-source : (imported source : ℕ) → (imported ≡ 1 → ⊥) → eqb source 0 ≡ (eqb imported 1 || eqb source 0)
own-source imported source e = simp tests

-- an imported record, or one that names no source
source-iff : (imported source : ℕ) → (eqb imported 1 || eqb source 0) ≡ true ↔ (¬ (imported ≡ 1) → source ≡ 0)
source-iff imported source = simp (or-iff, eqb-iff) Iff.rfl

module _ (h : Header) (r : Record) (k : ℕ) where
  mark-wrong : ¬ MarksMeet h r → Err (refusal RecordWrong k) ≡ marks_verdict h r k
  mark-wrong n = sym (marks-refuses h r k n)

  pub marks-reserved : (r.reserved ≡ 0 → ⊥) → Err (refusal RecordWrong k) ≡ marks_verdict h r k
  marks-reserved n = mark-wrong (λ m. n m.reserved)

  pub marks-last : (r.reserved_last ≡ 0 → ⊥) → Err (refusal RecordWrong k) ≡ marks_verdict h r k
  marks-last n = mark-wrong (λ m. n m.reserved_last)

  pub marks-flags : 1 < r.flags → Err (refusal RecordWrong k) ≡ marks_verdict h r k
  marks-flags l = mark-wrong (λ m. omega (arith, m.flags))

  pub marks-visibility : 1 < r.visibility → Err (refusal RecordWrong k) ≡ marks_verdict h r k
  marks-visibility l = mark-wrong (λ m. omega (arith, m.visibility))

  pub marks-imported : 1 < r.imported → Err (refusal RecordWrong k) ≡ marks_verdict h r k
  marks-imported l = mark-wrong (λ m. omega (arith, m.imported))

  pub marks-domain : (r.domain ≡ h.domain → ⊥) → Err (refusal RecordWrong k) ≡ marks_verdict h r k
  marks-domain n = mark-wrong (λ m. n m.domain)

  module _ (t : Bool) (e : t ≡ (eqb r.imported 1 || eqb r.source 0)) where
    pub marks-source : not t ≡ true → Err (refusal RecordWrong k) ≡ marks_verdict h r k
    marks-source f = mark-wrong (λ m. clash _ ((source-iff r.imported r.source).1 (λ n. m.source (omega (arith, m.imported)))) (was-false e f))

    pub marks-accepted : r.reserved ≡ 0 → r.reserved_last ≡ 0 → r.flags ≤ 1 → r.visibility ≤ 1 → r.imported ≤ 1 → not t ≡ false
        → r.domain ≡ h.domain → accepted ≡ marks_verdict h r k
    marks-accepted a b f v i s d =
        sym ((marks-book h r k).1 (record {
          reserved = a;
          reserved_last = b;
          flags = f;
          visibility = v;
          imported = i;
          source = λ z. (source-iff r.imported r.source).0 (was-true e s) (λ q. omega arith);
          domain = d;
        }))

pub ruleset marks-rows = (
  marks-reserved,
  marks-last,
  marks-flags,
  marks-visibility,
  marks-imported,
  marks-source,
  marks-domain,
  marks-accepted,
)

-- ---- 8

module _ (pairs : List ℕ) (h : Header) (r : Record) (k : ℕ) where
  digest-wrong : ¬ DigestMeets pairs h r → Err (refusal Digest k) ≡ digest_verdict pairs h r k
  digest-wrong n = sym (digest-refuses pairs h r k n)

  pub digest-before : r.digest_offset.0 < digests_offset h → Err (refusal Digest k) ≡ digest_verdict pairs h r k
  digest-before l = digest-wrong (λ m. omega (arith, m.starts))

  pub digest-after : digests_offset h + digests_size h < r.digest_offset.0 → Err (refusal Digest k) ≡ digest_verdict pairs h r k
  digest-after l = digest-wrong (λ m. omega (arith, m.ends))

  pub digest-past : r.digest_offset.0 ≤ digests_offset h + digests_size h → digests_offset h + digests_size h - r.digest_offset.0 < r.digest_length
      → Err (refusal Digest k) ≡ digest_verdict pairs h r k
  digest-past l p = digest-wrong (λ m. omega (arith, m.ends))

  module _ (t : Bool) (e : t ≡ allows pairs r.hash_id r.digest_length) where
    pub digest-unknown : not t ≡ true → Err (refusal Digest k) ≡ digest_verdict pairs h r k
    digest-unknown f = digest-wrong (λ m. clash _ m.allowed (was-false e f))

    pub digest-accepted : not t ≡ false → digests_offset h ≤ r.digest_offset.0 → r.digest_offset.0 ≤ digests_offset h + digests_size h
        → r.digest_length ≤ digests_offset h + digests_size h - r.digest_offset.0 → accepted ≡ digest_verdict pairs h r k
    digest-accepted a b c d = sym ((digest-book pairs h r k).1 (record { allowed = was-true e a; starts = b; ends = omega arith }))

pub ruleset digest-rows = (digest-unknown, digest-before, digest-after, digest-past, digest-accepted)
