-- Look up answers by the meaning, and so two segments that mean the same answer alike.
-- Assumes nothing.
use Prim.Native.Nat.{ℕ, zero, suc, ◌+◌, ◌*◌, ◌≤◌, ◌<◌}
use mathlib.Core.Path.{◌≡◌, refl, sym, ap, ap₂, ◌∙◌}
use mathlib.Core.HLevel.{¬_prop, →_prop}
use mathlib.Core.Bool.{true}
use mathlib.Core.List.{List, [], ◌∷◌}
use native.Mathlib.Omega.{arith}
use borrow.Author.Tests.{eqb-false}
use lib.ListN.{length, take, drop}
use Rattle.std.specs.Prelude.{Ok}
use Rattle.answer.specs.declared.Found.TheVariants.{Absent, Gone, Present}
use Rattle.answer.specs.Answers.{found_answer, Source}
use Rattle.lists.proofs.Tests.{by-test}
use Rattle.answer.proofs.Settled.{found-settled}
use Rattle.segment.specs.declared.header.Header.{Header}
use Rattle.segment.specs.declared.header.Heading.{Heading}
use Rattle.segment.specs.declared.record.Record.{Record}
use Rattle.segment.specs.declared.extent.Extent.{Extent}
use Rattle.segment.specs.Format.{v3, in_file, header_of, record_count, record_no, extent_of, extents_at}
use Rattle.segment.specs.Keys.{key_of, Key, allows_key}
use Rattle.segment.specs.Check.{is_gone, key_no, check_of}
use Rattle.segment.specs.Meets.{LayoutMeets, LiveMeets, RecordMeets, Meets}
use Rattle.segment.specs.Meaning.{Row, row_key, source_of, row_of, row_no, rows_of, heading_of, meaning_of, SameMeaning}
use Rattle.segment.specs.LookUp.{LookedUp, record_found, looked_up, look_up_of, extents_part}
use Rattle.segment.proofs.Extents.{extents-counted}
use Rattle.theorem_demands.specs.Answered.{accepted, absent}
use Rattle.theorem_demands.specs.LookUps.{HasKey, Finds}
use Rattle.theorem_demands.proofs.Rulebook.{accepts-iff}
use Rattle.theorem_demands.proofs.LookUps.{look-up-finds}
use Rattle.theorem_meaning.specs.Tellings.{telling_of, row_telling, LookMeans}
use Rattle.theorem_meaning.proofs.Accounts.{number-in-part}
use Rattle.lists.proofs.Members.{members-iff, counted-member}
use Rattle.theorem_meaning.proofs.Members.{by-search, Telling-set}

-- ---- extents read out of a part

part-extents : (s : List ℕ) (a m k n : ℕ) → a + m ≤ length s → k + 16 * n ≤ m → extents_at (take m (drop a s)) k n ≡ extents_at s (a + k) n
unfolding extents_at extent_of
part-extents s a m k zero l u = refl
part-extents s a m k (suc n) l u =
    let next : a + (k + 16) ≡ a + k + 16 = omega arith in
    let off : a + (k + 8) ≡ a + k + 8 = omega arith in
    let len : a + (k + 12) ≡ a + k + 12 = omega arith in
    let first : extent_of (take m (drop a s)) k ≡ extent_of s (a + k) = λ j. record {
      block = number-in-part 8 m a k s (omega arith) l j;
      offset = record { 0 = (rw off at (number-in-part 4 m a (k + 8) s (omega arith) l)) j };
      length = (rw len at (number-in-part 4 m a (k + 12) s (omega arith) l)) j;
    } in
    ap₂ (λ (e : Extent) (es : List Extent). e ∷ es) first (rw next at (part-extents s a m (k + 16) n l (omega arith)))

-- ---- a record's answer is its row's

record-told : (s : List ℕ) (h : Header) (pairs : List ℕ) (q : Record) → LayoutMeets v3 s h → RecordMeets v3 pairs s h q
    → telling_of (Ok (record_found q)) s ≡ row_telling h.domain (row_of s q)
unfolding record_found row_of extents_part
record-told s h pairs q y m =
    let source : Source = source_of q.imported q.source in
    by-test (is_gone q)
    (λ g. rw g (λ j. record { answer = found_answer (Ok (Gone q.visibility (m.marks.domain j) source)); extents = [] }))
    (λ g.
    let n = eqb-false q.flags 1 g in
    let at = q.extents_offset.0 in
    let count = q.extent_count in
    let inside : LiveMeets h q = m.extents.live n in
    let there : extents_at (take (16 * count) (drop at s)) 0 count ≡ extents_at s at count =
    let z : at + 0 ≡ at = omega arith in
    rw z at (part-extents s at (16 * count) 0 count (omega (arith, inside, y.file)) (omega arith)) in
    let total = sym (m.total.live n).sum in
    let counted = sym (extents-counted s at count) in
    rw g (λ j. record { answer = found_answer (Ok (Present q.visibility (m.marks.domain j) source (total j) (in_file 0) (counted j))); extents = there j }))

-- ---- an accepted segment

module _ (pairs s : List ℕ) (key : Key) (e : check_of pairs s ≡ accepted) (a : allows_key pairs key ≡ true) where
  abbrev row : ℕ → Row
  row = row_no v3 s (header_of s)

  abbrev count : ℕ
  count = record_count (header_of s)

  finds : Finds pairs s key
  finds = look-up-finds pairs s key e a

  -- a row's key is the record's
  has_key : (k : ℕ) → k < count → row_key (row k) ≡ key_of key → HasKey s key k
  unfolding row_no row_of key_no
  has_key k l q = record { within = l; same = q }

  row-key : (k : ℕ) → HasKey s key k → row_key (row k) ≡ key_of key
  unfolding row_no row_of key_no
  row-key k h = h.same

  row_told : (k : ℕ) → HasKey s key k → telling_of (looked_up pairs s key) s ≡ row_telling (header_of s).domain (row k)
  unfolding look_up_of row_no
  row_told k h =
      let m : Meets v3 pairs s = ((accepts-iff pairs s).0 e).1 in
      let q : Record = record_no v3 s (header_of s) k in
      let found : looked_up pairs s key ≡ Ok (record_found q) = found-settled (looked_up pairs s key) (Ok (record_found q)) (finds.that-record k h) in
      ap (λ (f : LookedUp). telling_of f s) found ∙ record-told s (header_of s) pairs q m.layout (m.each k h.within)

  pub look-up-means : LookMeans pairs s key
  unfolding meaning_of heading_of rows_of
  look-up-means = record {
    absent-iff = (
      λ q. (members-iff (λ (r : Row). ¬ (row_key r ≡ key_of key)) (λ r. ¬_prop) row count).1 (λ k l t. finds.absent-iff.0 q k (has_key k l t)),
      λ n. finds.absent-iff.1 (λ k h. n (row k) (counted-member row count k h.within) (row-key k h)),
    );
    that-row =
        (members-iff (λ (r : Row). row_key r ≡ key_of key → telling_of (looked_up pairs s key) s ≡ row_telling (header_of s).domain r)
        (λ r. →_prop (Telling-set _ _)) row count).1 (λ k l t. row_told k (has_key k l t));
  }

-- ---- two that mean the same

none_alike : (pairs s : List ℕ) (key : Key) → look_up_of pairs s key ≡ absent → looked_up pairs s key ≡ Ok Absent
unfolding look_up_of
none_alike pairs s key e = found-settled (looked_up pairs s key) (Ok Absent) e

pub look-ups-alike : (pairs a others b : List ℕ) (key : Key) → check_of pairs a ≡ accepted → check_of others b ≡ accepted
    → allows_key pairs key ≡ true → allows_key others key ≡ true → SameMeaning (meaning_of v3 a) (meaning_of v3 b)
    → telling_of (looked_up pairs a key) a ≡ telling_of (looked_up others b key) b
unfolding rows_of meaning_of
look-ups-alike pairs a others b key e f p q same =
    let first = look-up-means pairs a key e p in
    let second = look-up-means others b key f q in
    let rows = row_no v3 a (header_of a) in
    by-search (λ k. row_key (rows k)) (key_of key) (record_count (header_of a))
    (λ none.
    let nowhere = (members-iff (λ (r : Row). ¬ (row_key r ≡ key_of key)) (λ r. ¬_prop) rows (record_count (header_of a))).1 none in
    rw (
      none_alike pairs a key (first.absent-iff.1 nowhere),
      none_alike others b key (second.absent-iff.1 (λ r m. nowhere r ((same.records r).1 m))),
    ))
    (λ k l t.
    let here = counted-member rows (record_count (header_of a)) k l in
    first.that-row (rows k) here t
    ∙ ap (λ (t : Heading). row_telling t.domain (rows k)) same.heading
    ∙ sym (second.that-row (rows k) ((same.records (rows k)).0 here) t))
