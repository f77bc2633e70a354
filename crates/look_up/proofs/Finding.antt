-- The laws of a search for a key among the records, and of what is said of the record that has it.
-- Assumes nothing.
use Prim.Native.Nat.{ℕ, ◌+◌, ◌≤◌, ◌<◌}
use mathlib.Core.Path.{◌≡◌, sym, ap, ◌∙◌}
use mathlib.Core.Bool.{Bool, true, false, not}
use mathlib.Core.List.{List}
use native.Mathlib.Omega.{arith}
use Rattle.std.specs.Prelude.{Ok, Err}
use Rattle.answer.specs.Rules.{accepted}
use Rattle.answer.specs.declared.Refusal.{Refusal}
use Rattle.answer.specs.declared.Rule.TheVariants.{Key as KeyWrong, Table as TableWrong}
use Rattle.answer.specs.declared.Found.{Found}
use Rattle.answer.specs.declared.Found.TheVariants.{Absent, Gone, Present}
use Rattle.answer.specs.Answers.{refusal, found_answer, Source}
use Rattle.lists.proofs.Tests.{tests, was-true, was-false}
use Rattle.segment.specs.declared.header.Header.{Header}
use Rattle.segment.specs.declared.record.Record.{Record}
use Rattle.segment.specs.declared.shape.Shape.{Shape}
use Rattle.segment.specs.Format.{v3, header_of, record_of, record_no, record_count, records_offset, record_at}
use Rattle.table.specs.Table.{good_table, table_verdict}
use Rattle.segment.specs.Keys.{Key, key_of, allows_key}
use Rattle.lists.specs.Lists.{eq_list}
use Rattle.segment.specs.Check.{digest_in, key_no, segment_verdict}
use Rattle.segment.specs.Meaning.{source_of}
use Rattle.segment.specs.LookUp.{key_verdict, record_found, found_over, found_no, found_in, found_under, LookedUp, looked_up, look_up_of}
use Rattle.segment.proofs.Found.{never-absent, found_none, found-more, found_first}
use Rattle.key.specs.declared.Kind.TheVariants.{Records}
use Rattle.key.specs.Items.{item_key, item_hash, item_digest, item_span, record_span}

-- ---- one record

module _ (r : Record) (o : Source) (e : o ≡ source_of r.imported r.source) where
  pub found-gone : r.flags ≡ 1 → Gone r.visibility r.domain o ≡ record_found r
  unfolding record_found
  found-gone g = rw e (simp tests)

  pub found-live : (r.flags ≡ 1 → ⊥)
      → Present r.visibility r.domain o r.total_length r.extents_offset r.extent_count ≡ record_found r
  unfolding record_found
  found-live g = rw e (simp tests)

-- ---- a segment's records

-- a search has come to k, and no record below it has the key
pub record Searching (sh : Shape) (s : List ℕ) (key : Key) (k : ℕ) : Type 0 where
  pub none : found_over k (found_no sh s (header_of s) key) ≡ Absent

pub search-start : (sh : Shape) (s : List ℕ) (key : Key) → Searching sh s key 0
search-start sh s key = record { none = found_none (found_no sh s (header_of s) key) }

pub search-done : (sh : Shape) (s : List ℕ) (key : Key) (k : ℕ) (h : Header) → h ≡ header_of s → Searching sh s key k → k ≤ record_count h → record_count h ≤ k → Absent ≡ found_in sh s (header_of s) key
unfolding found_in
search-done sh s key k h e v a b =
    let n : record_count (header_of s) ≡ k = ap record_count (sym e) ∙ omega arith in
    sym (ap (λ (m : ℕ). found_over m (found_no sh s (header_of s) key)) n ∙ v.none)

module _ (sh : Shape) (pairs s : List ℕ) (h : Header) (key : Key) (k : ℕ) (e : h ≡ header_of s) (b : Bool)
    (t : b ≡ eq_list (item_key (Records h.records_offset sh) s pairs k) (key_of key)) where
  -- the item's key is the record's
  tested : b ≡ eq_list (key_no sh s (header_of s) k) (key_of key)
  unfolding item_key item_hash item_digest item_span record_span key_no digest_in record_no
  tested = rw e at t

  at-record : (r : Record) → r ≡ record_of sh s (record_at sh h k) → r ≡ record_no sh s (header_of s) k
  unfolding record_no
  at-record r q = q ∙ ap (λ (x : Header). record_of sh s (record_at sh x k)) e

  pub search-more : Searching sh s key k → b ≡ false → Searching sh s key (k + 1)
  unfolding found_no
  search-more v f = record { none = found-more k (found_no sh s (header_of s) key) v.none (rw (sym tested ∙ f)) }

  pub search-hit : (r : Record) (o : Found) → Searching sh s key k → b ≡ true → k < record_count h
      → r ≡ record_of sh s (record_at sh h k) → o ≡ record_found r → o ≡ found_in sh s (header_of s) key
  unfolding found_in found_no
  search-hit r o v f l q p =
      let n : k < record_count (header_of s) = rw e at l in
      let here : found_no sh s (header_of s) key k ≡ record_found (record_no sh s (header_of s) k) = rw (sym tested ∙ f) in
      let same : r ≡ record_no sh s (header_of s) k = at-record r q in
      p ∙ ap record_found same ∙ sym here
      ∙ sym (found_first (record_count (header_of s)) k (found_no sh s (header_of s) key) n v.none (λ z. never-absent (record_no sh s (header_of s) k) (sym here ∙ z)))

-- ---- the whole

module _ (pairs s : List ℕ) (key : Key) where
  pub unknown-key : (b : Bool) → b ≡ allows_key pairs key → not b ≡ true → Err (refusal KeyWrong 0) ≡ found_under pairs s key
  unfolding found_under key_verdict
  unknown-key b e f = rw (was-false e f)

  module _ (b : Bool) (e : b ≡ allows_key pairs key) (f : not b ≡ false) where
    pub segment-stop : (x : Refusal) → segment_verdict v3 pairs s ≡ Err x → Err x ≡ found_under pairs s key
    unfolding found_under key_verdict
    segment-stop x g = rw (was-true e f, g)

    pub segment-pass : {o : Found} → segment_verdict v3 pairs s ≡ accepted → o ≡ found_in v3 s (header_of s) key
        → Ok o ≡ found_under pairs s key
    unfolding found_under key_verdict
    segment-pass g h = rw (was-true e f, g) (ap Ok h)

  pub table-bad : good_table pairs ≡ false → found_answer (Err (refusal TableWrong 0)) ≡ look_up_of pairs s key
  unfolding look_up_of looked_up table_verdict
  table-bad e = rw e

  pub table-good : (part : List ℕ) {o : LookedUp} → good_table pairs ≡ true → part ≡ pairs → o ≡ found_under part s key
      → found_answer o ≡ look_up_of pairs s key
  unfolding look_up_of looked_up table_verdict
  table-good part e p f = rw e (ap found_answer (f ∙ ap (λ (q : List ℕ). found_under q s key) p))
