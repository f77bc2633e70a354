-- The pass over all records.
-- Assumes nothing.
use Prim.Native.Nat.{ℕ, ◌+◌, ◌≤◌, ◌<◌, max}
use mathlib.Core.Path.{◌≡◌, refl, sym, ◌∙◌}
use mathlib.Core.List.{List}
use native.Mathlib.Numerals.{add-one}
use native.Mathlib.Omega.{arith}
use Rattle.std.specs.Prelude.{Err, Ok}
use Rattle.answer.specs.declared.Refusal.{Refusal}
use Rattle.answer.specs.Rules.{first_over, accepted}
use Rattle.answer.proofs.Order.{first-none, first_more, first-refused}
use Rattle.segment.specs.declared.header.Header.{Header}
use Rattle.segment.specs.declared.record.Record.{Record}
use Rattle.segment.specs.declared.shape.Shape.{Shape}
use Rattle.segment.specs.Format.{record_of, record_no, record_at}
use Rattle.segment.specs.Check.{record_rules, record_verdict, largest_below, visibility_no}
use Rattle.check_records.specs.RecordsPassed.{passed}

-- ---- the pass over the records

-- a pass has come to k, and nothing is refused below it
pub record Passing (sh : Shape) (pairs s : List ℕ) (h : Header) (k largest : ℕ) : Type 0 where
  pub kept : first_over k (record_verdict sh pairs s h) ≡ accepted
  pub shown : largest ≡ largest_below k (visibility_no sh s h)

pub pass-start : (sh : Shape) (pairs s : List ℕ) (h : Header) → Passing sh pairs s h 0 0
unfolding largest_below
pass-start sh pairs s h = record { kept = first-none (record_verdict sh pairs s h); shown = refl }

module _ (sh : Shape) (pairs s : List ℕ) (h : Header) (k largest : ℕ) (r : Record) (p : Passing sh pairs s h k largest) (q : r ≡ record_of sh s (record_at sh h k))
    (at : ℕ) (w : at ≡ record_at sh h k) where
  here : record_rules sh pairs s h r at ≡ record_verdict sh pairs s h k
  unfolding record_verdict record_no
  here = rw (q, w)

  pub pass-refused : (n : ℕ) (x : Refusal) → k < n → record_rules sh pairs s h r at ≡ Err x → Err x ≡ passed sh pairs s h n
  unfolding passed
  pass-refused n x l e = rw (first-refused n k (record_verdict sh pairs s h) x l p.kept (sym here ∙ e))

  pub pass-more : (m : ℕ) → record_rules sh pairs s h r at ≡ accepted → m ≡ max largest r.visibility → Passing sh pairs s h (k + 1) m
  unfolding largest_below visibility_no record_no
  pass-more m e f = record {
    kept = first_more k (record_verdict sh pairs s h) p.kept (sym here ∙ e);
    shown = f ∙ rw (add-one, p.shown, q);
  }

pub pass-done : (sh : Shape) (pairs s : List ℕ) (h : Header) (n k largest : ℕ) → Passing sh pairs s h k largest → k ≤ n → n ≤ k → Ok largest ≡ passed sh pairs s h n
unfolding passed
pass-done sh pairs s h n k largest p a b =
    let e : n ≡ k = omega arith in
    rw (e, p.kept, ← p.shown)
