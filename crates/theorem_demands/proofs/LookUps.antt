-- Look up finds: demand 2 on look up holds of the definitions, and the promises of check and look up allow one answer only.
-- Assumes nothing.
use Prim.Native.Nat.{ℕ, ◌*◌, ◌<◌}
use mathlib.Core.Path.{◌≡◌, refl, sym, ap, ◌∙◌}
use mathlib.Core.Bool.{true, false}
use mathlib.Core.Logic.Iff
use mathlib.Core.Logic.{◌↔◌}
use mathlib.Core.List.{List}
use native.Mathlib.Omega.{arith}
use borrow.Author.Tests.{ne_eqb}
use lib.ListN.{take, drop}
use Rattle.std.specs.Prelude.{Err, Ok}
use Rattle.answer.specs.declared.Refusal.{Refusal}
use Rattle.answer.specs.declared.Rule.TheVariants.{Table, Key as KeyWrong}
use Rattle.answer.specs.declared.Found.{Found}
use Rattle.answer.specs.declared.Found.TheVariants.{Absent}
use Rattle.answer.specs.Answers.{refusal, refused, check_answer, found_answer}
use Rattle.answer.specs.Rules.{◌then◌, Verdict}
use Rattle.lists.proofs.Tests.{by-test}
use Rattle.answer.proofs.Order.{then-accepted}
use Rattle.answer.proofs.Settled.{check-settled, found-settled}
use Rattle.segment.specs.declared.record.Record.{Record}
use Rattle.segment.specs.Format.{v3, header_of, record_count, record_no}
use Rattle.table.specs.Table.{good_table, table_verdict}
use Rattle.segment.specs.Keys.{Key, key_of, allows_key}
use Rattle.segment.specs.Check.{key_no, segment_verdict, checked, check_of}
use Rattle.segment.specs.LookUp.{LookedUp, key_verdict, record_found, found_over, found_no, found_in, found_under, looked_up, look_up_of, extents_part}
use Rattle.lists.proofs.Equal.{eq_list-iff, unequal}
use Rattle.segment.proofs.Found.{never-absent, found_all, found_first}
use Rattle.theorem_demands.specs.Answered.{accepted}
use Rattle.theorem_demands.specs.LookUps.{HasKey, Finds, LookGiven, by-table, by_key, by-segment}
use Rattle.theorem_demands.specs.Refusals.{Given}
use Rattle.check_book.proofs.Book.{under_table}
use Rattle.theorem_demands.proofs.Rulebook.{answer-is, accepts-iff}
use Rattle.theorem_demands.proofs.InNumbers.{in-numbers}
use Rattle.theorem_demands.proofs.Refusals.{refused-iff}
use Rattle.theorem_demands.proofs.Settling.{then-refuses}

-- a segment that check accepts: the table is good, and every other rule holds
accepted-parts : (pairs s : List ℕ) → check_of pairs s ≡ accepted → (table_verdict pairs ≡ Ok _) × (segment_verdict v3 pairs s ≡ Ok _)
unfolding checked
accepted-parts pairs s e = (then-accepted (table_verdict pairs) (segment_verdict v3 pairs s)).0 ((answer-is pairs s (Ok _)).0 e)

-- the part that is handed back for a record that is not gone
live-part : (r : Record) (s : List ℕ) → (r.flags ≡ 1 → ⊥)
    → extents_part (Ok (record_found r)) s ≡ take (16 * r.extent_count) (drop r.extents_offset.0 s)
unfolding record_found extents_part
live-part r s n = rw (ne_eqb r.flags 1 n)

module _ (pairs s : List ℕ) (key : Key) (e : check_of pairs s ≡ accepted) (a : allows_key pairs key ≡ true) where
  at : ℕ → Found
  at = found_no v3 s (header_of s) key

  looked : looked_up pairs s key ≡ Ok (found_over (record_count (header_of s)) at)
  unfolding looked_up found_under key_verdict found_in at
  looked = let p = accepted-parts pairs s e in rw (p.0, a, p.1)

  -- a record with the key, and one without it
  here : (k : ℕ) → HasKey s key k → at k ≡ record_found (record_no v3 s (header_of s) k)
  unfolding at found_no
  here k h = rw ((eq_list-iff (key_no v3 s (header_of s) k) (key_of key)).1 h.same)

  elsewhere : (k : ℕ) → (key_no v3 s (header_of s) k ≡ key_of key → ⊥) → at k ≡ Absent
  unfolding at found_no
  elsewhere k n = rw (sym (unequal (key_no v3 s (header_of s) k) (key_of key) n))

  one : (j k : ℕ) → HasKey s key j → HasKey s key k → j ≡ k
  one j k p q = ((accepts-iff pairs s).0 e).1.distinct j k p.within q.within (p.same ∙ sym q.same)

  none_found : ((k : ℕ) → HasKey s key k → ⊥) → looked_up pairs s key ≡ Ok Absent
  none_found n = looked ∙ ap Ok (found_all (record_count (header_of s)) at (λ k l. elsewhere k (λ q. n k (record { within = l; same = q }))))

  that-found : (k : ℕ) → HasKey s key k → looked_up pairs s key ≡ Ok (record_found (record_no v3 s (header_of s) k))
  that-found k h =
      let before : found_over k at ≡ Absent = found_all k at (λ j l. elsewhere j (λ q. absurd (less j l q))) in
      looked ∙ ap Ok (found_first (record_count (header_of s)) k at h.within before (λ z. never-absent (record_no v3 s (header_of s) k) (sym (here k h) ∙ z)) ∙ here k h)
    where
      less : (j : ℕ) → j < k → key_no v3 s (header_of s) j ≡ key_of key → ⊥
      less j l q =
          let w : k < record_count (header_of s) = h.within in
          let z : j ≡ k = one j k (record { within = omega arith; same = q }) h in
          omega arith

  pub look-up-finds : Finds pairs s key
  unfolding look_up_of
  look-up-finds = record {
    absent-iff = (
      λ q k h.
          let z = sym (that-found k h) ∙ found-settled (looked_up pairs s key) (Ok Absent) q in
          never-absent (record_no v3 s (header_of s) k) cc,
      λ n. ap found_answer (none_found n),
    );
    that-record = λ k h. ap found_answer (that-found k h);
    its-extents = λ k h l. ap (λ (f : LookedUp). extents_part f s) (that-found k h) ∙ live-part (record_no v3 s (header_of s) k) s l;
    only_one = one;
  }

-- ---- each refusal of look up exactly when

module _ (pairs s : List ℕ) (key : Key) where
  looks : LookedUp
  looks = looked_up pairs s key

  under-bad : good_table pairs ≡ false → looks ≡ Err (refusal Table 0)
  unfolding looks looked_up table_verdict
  under-bad g = rw g

  module _ (g : good_table pairs ≡ true) where
    no_key : allows_key pairs key ≡ false → looks ≡ Err (refusal KeyWrong 0)
    unfolding looks looked_up found_under key_verdict table_verdict
    no_key a = rw (g, a)

    module _ (a : allows_key pairs key ≡ true) where
      as-check : looks ≡ (segment_verdict v3 pairs s then Ok (found_in v3 s (header_of s) key))
      unfolding looks looked_up found_under key_verdict table_verdict
      as-check = rw (g, a)

      checks : (r : Refusal) → segment_verdict v3 pairs s ≡ Err r ↔ Given pairs s r
      checks r = rw (← under_table pairs s g) (refused-iff pairs s r)

      from-check : (r : Refusal) → looks ≡ Err r ↔ Given pairs s r
      from-check r = rw as-check (Iff.trans (then-refuses (segment_verdict v3 pairs s) (found_in v3 s (header_of s) key) r) (checks r))

  given : (r : Refusal) → looks ≡ Err r → LookGiven pairs s key r
  given r e =
      by-test (good_table pairs)
      (λ g.
      by-test (allows_key pairs key) (λ a. by-segment g a ((from-check g a r).0 e))
      (λ a. let z : Err (refusal KeyWrong 0) ≡ Err r = sym (no_key g a) ∙ e in let same : (refusal KeyWrong 0) ≡ r = cc in rw (← same) (by_key g a)))
      (λ g. let z : Err (refusal Table 0) ≡ Err r = sym (under-bad g) ∙ e in let same : (refusal Table 0) ≡ r = cc in rw (← same) (by-table g))

  refuses : (r : Refusal) → LookGiven pairs s key r → looks ≡ Err r
  refuses r (by-table g) = under-bad g
  refuses r (by_key g a) = no_key g a
  refuses r (by-segment g a n) = (from-check g a r).1 n

  pub look-refused-iff : (r : Refusal) → looked_up pairs s key ≡ Err r ↔ LookGiven pairs s key r
  unfolding looks
  look-refused-iff r = (given r, refuses r)

  -- in numbers
  pub look-refused-numbers : (r : Refusal) → look_up_of pairs s key ≡ refused r ↔ LookGiven pairs s key r
  unfolding look_up_of
  look-refused-numbers = in-numbers found_answer Err found-settled (λ r. refl) (looked_up pairs s key) look-refused-iff

-- ---- two answers that one promise allows are equal

pub one-verdict : (pairs s : List ℕ) (v w : Verdict) → check_answer v ≡ check_of pairs s → check_answer w ≡ check_of pairs s → v ≡ w
one-verdict pairs s v w p q = check-settled v w (p ∙ sym q)

pub one_found : (pairs s : List ℕ) (key : Key) (f g : LookedUp) → found_answer f ≡ look_up_of pairs s key
    → found_answer g ≡ look_up_of pairs s key → f ≡ g
one_found pairs s key f g p q = found-settled f g (p ∙ sym q)
