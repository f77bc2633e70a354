-- Demand 2 on write holds of the definitions: what it writes is accepted under the same table, means what was asked for and is its own tidy form, and it is
-- what tidy writes for the same meaning. And each refusal of write is given exactly when; then every byte of the output stays.
-- Assumes nothing.
use Prim.Native.Nat.{ℕ, zero, suc, ◌*◌, ◌≤◌}
use mathlib.Core.Path.{◌≡◌, sym, ap, ◌∙◌}
use mathlib.Core.HLevel.{¬_prop}
use mathlib.Core.Bool.{true}
use mathlib.Core.Logic.{◌↔◌, ◌≢◌}
use mathlib.Core.List.{List}
use native.Mathlib.Omega.{arith}
use borrow.Author.Tests.{eqb-false}
use lib.ListN.{length, take, drop, length-drop}
use lib.Seq.{length-take-le}
use Rattle.std.specs.Prelude.{Err}
use Rattle.numbers.specs.Numbers.{Bytes}
use Rattle.numbers.proofs.NumberLaws.{bytes_take, bytes_drop}
use Rattle.answer.specs.declared.Refusal.{Refusal}
use Rattle.answer.specs.Answers.{refused, Written}
use Rattle.lists.proofs.Tests.{by-test, and-iff, leb-iff, ltb_iff}
use Rattle.segment.specs.declared.entry.Entry.{Entry}
use Rattle.segment.specs.Format.{v3, file_limit}
use Rattle.segment.specs.Check.{check_of}
use Rattle.segment.specs.Meaning.{Row, row_key, meaning_of, SameMeaning}
use Rattle.segment.specs.Tidy.{tidy_form, outcome, tidy_of}
use Rattle.segment.specs.Write.{
  Request,
  entry_count,
  listed_extent,
  extents_from,
  entry_gone,
  entry_no,
  all_listed_fit,
  entry_digest_bytes,
  entry_key,
  entry_row,
  requested,
  request_verdict,
  wrote,
  write_of,
}
use Rattle.table.proofs.Pairs.{allowed-small}
use Rattle.segment.proofs.ListedExtents.{listed-counted}
use Rattle.segment.proofs.Sources.{source_fits}
use Rattle.lists.specs.Lists.{Each}
use Rattle.form_laws.specs.Form.{ExtentWritable, Writable, Contents}
use Rattle.lists.proofs.Counted.{counted-long, each-iff, pairwise_iff}
use Rattle.form_laws.proofs.Meanings.{meaning-writable}
use Rattle.segment.specs.Asked.{Asked}
use Rattle.theorem_demands.specs.Answered.{accepted}
use Rattle.theorem_demands.specs.Tidying.{Wrote, tidy_bytes, Tidiable, Keeps}
use Rattle.theorem_demands.specs.Writing.{Wide, Lent, Asks, written_bytes, Writes, WriteGiven}
use Rattle.theorem_demands.specs.Asking.{request_for, AskedFor}
use Rattle.theorem_demands.proofs.Rulebook.{accepts-iff}
use Rattle.theorem_demands.proofs.Settling.{settled-refused, wrote-iff, refused-keeps, written-numbers, one-outcome}
use Rattle.theorem_demands.proofs.Requests.{request-accepted, request-refused-iff}
use Rattle.theorem_demands.proofs.Tidying.{tidied-iff, FormFor, form-keeps, forms-same-iff, accepted-form, tidied-form}
use Rattle.theorem_demands.proofs.Asking.{asked-for}

-- ---- when write writes, and what; when it refuses, and what stays

module _ (pairs : List ℕ) (q : Request) where
  -- the tidy form of what is asked for and nothing else, exactly when it does not refuse
  pub written-iff : (out r : List ℕ) → Wrote (write_of pairs q out) out r ↔ Writes pairs q (length out) × (r ≡ written_bytes q)
  unfolding write_of wrote
  written-iff out r =
      simp (wrote-iff (request_verdict v3 pairs q) (written_bytes q) out r, request-accepted pairs q) (
        λ d. (record { asks = d.0.0; small = d.0.1.0; fits = d.0.1.1 }, d.1),
        λ d. ((d.0.asks, (d.0.small, d.0.fits)), d.1),
      )

  pub write-refused-iff : (room : ℕ) (r : Refusal) → wrote pairs q room ≡ Err r ↔ WriteGiven pairs q room r
  unfolding wrote
  write-refused-iff room r =
      settled-refused (request_verdict v3 pairs q) (written_bytes q) (request-accepted pairs q) (request-refused-iff pairs q) room r

  -- in numbers
  pub write-refused-numbers : (out : List ℕ) (r : Refusal) → (write_of pairs q out).answer ≡ refused r ↔ WriteGiven pairs q (length out) r
  unfolding write_of
  write-refused-numbers out = written-numbers (wrote pairs q (length out)) (write-refused-iff (length out))

  pub write-refused-keeps : (out : List ℕ) (r : Refusal) → wrote pairs q (length out) ≡ Err r → (write_of pairs q out).output ≡ out
  unfolding write_of wrote
  write-refused-keeps out r e = refused-keeps (request_verdict v3 pairs q) (written_bytes q) out r e

  -- two answers that the promise allows are equal, and so is what they leave
  pub one_written : (out : List ℕ) (v w : Written) (x y : List ℕ) → outcome v x ≡ write_of pairs q out → outcome w y ≡ write_of pairs q out
      → (v ≡ w) × (x ≡ y)
  one_written out = one-outcome (write_of pairs q out)

-- ---- what is asked for can be written

extents-writable : (xs : List ℕ) → Wide xs → (j n : ℕ) → all_listed_fit (extents_from xs j n) ≡ true → Each ExtentWritable (extents_from xs j n)
unfolding extents_from all_listed_fit Each listed_extent
extents-writable xs w j zero f = tt
extents-writable xs w j (suc n) f =
    let t = simp (and-iff, ltb_iff, leb-iff) at f in
    (record { block = w (3 * j); offset = t.0.0; size = t.0.1.0; inside = t.0.1.1 }, extents-writable xs w (suc j) n t.1)

module _ (pairs : List ℕ) (q : Request) (lent : Lent q) (asks : Asks pairs q) where
  abbrev row : ℕ → Row
  row = entry_row q.entries q.digests q.extents

  row-writable : (k : ℕ) → Asked v3 pairs q.digests q.extents (entry_no q.entries k) → Writable v3 pairs (row k)
  unfolding entry_row entry_digest_bytes
  row-writable k a =
      let e : Entry = entry_no q.entries k in
      let small = allowed-small pairs e.hash_id e.digest_length asks.table a.allowed in
      let long : length (take e.digest_length (drop e.digest_start q.digests)) ≡ e.digest_length =
      length-take-le e.digest_length (drop e.digest_start q.digests) (simp length-drop (omega (arith, a.lists.digest))) in
      let count = listed-counted q.extents e.first_extent e.extent_count in
      record {
        hash = small.0;
        digest = bytes_take e.digest_length (drop e.digest_start q.digests) (bytes_drop e.digest_start q.digests lent.digests);
        size = rw long (omega arith);
        allowed = rw long a.allowed;
        visibility = a.marks.visibility;
        source = source_fits e.imported e.source a.marks.source;
        state =
            by-test (entry_gone e) (λ t. rw t tt)
            (λ t. rw t (
            record {
              some = rw count (a.places.live (eqb-false e.gone 1 t));
              count = rw count a.places.count;
              each = extents-writable q.extents lent.extents e.first_extent e.extent_count a.total.fits;
              total = a.total.sum;
            }
            ));
      }

  pub request-writable : Contents v3 pairs q.heading q.bloom (requested q).records
  unfolding requested entry_row entry_key
  request-writable = record {
    heading = lent.heading;
    bloom_bytes = lent.bloom;
    bloom_divides = asks.asked.whole;
    few = rw (counted-long row 0 (entry_count q.entries)) asks.asked.few;
    each =
        (each-iff row (Writable v3 pairs) (entry_count q.entries)).1 (λ k l. row-writable k (asks.asked.each k l));
    apart =
        (pairwise_iff row (λ (a b : Row). row_key a ≢ row_key b) (λ a b. ¬_prop) (entry_count q.entries)).1
        (λ i j l u e. let same : i ≡ j = asks.asked.fresh i j (omega arith) u e in omega arith);
  }

-- ---- demand 2

pub written-form : (pairs : List ℕ) (q : Request) (out r : List ℕ) → Lent q → Wrote (write_of pairs q out) out r → FormFor pairs (requested q) r
unfolding requested
written-form pairs q out r lent w =
    let d = (written-iff pairs q out r).0 w in
    record { tidies = record { contents = request-writable pairs q lent d.0.asks; fits = d.0.small }; is = d.1 }

pub write_keeps : (pairs : List ℕ) (q : Request) (out r : List ℕ) → Lent q → Wrote (write_of pairs q out) out r → Keeps pairs (requested q) r
write_keeps pairs q out r lent w =
    form-keeps pairs (requested q) r ((written-iff pairs q out r).0 w).0.asks.table (written-form pairs q out r lent w)

-- two requests are written as the same bytes exactly when they ask for the same, whatever is lent for it
pub write-same-iff : (pairs : List ℕ) (p : Request) (x r others : List ℕ) (q : Request) (y t : List ℕ) → Lent p → Lent q
    → Wrote (write_of pairs p x) x r → Wrote (write_of others q y) y t → r ≡ t ↔ SameMeaning (requested p) (requested q)
write-same-iff pairs p x r others q y t a b v w =
    forms-same-iff pairs others (requested p) (requested q) r t (written-form pairs p x r a v) (written-form others q y t b w)

-- and so are a segment that is tidied and a request
pub tidy-write-same-iff : (pairs s x r others : List ℕ) (q : Request) (y t : List ℕ) → Bytes s → Lent q
    → Wrote (tidy_of pairs s x) x r → Wrote (write_of others q y) y t → r ≡ t ↔ SameMeaning (meaning_of v3 s) (requested q)
tidy-write-same-iff pairs s x r others q y t b l v w =
    forms-same-iff pairs others (meaning_of v3 s) (requested q) r t (tidied-form pairs s x r b v) (written-form others q y t l w)

tidy-small : (pairs s : List ℕ) → check_of pairs s ≡ accepted → tidy_bytes s ≡ s → length (tidy_bytes s) ≤ file_limit
tidy-small pairs s e tidy = rw tidy ((accepts-iff pairs s).0 e).1.size.most

-- a tidy segment whose meaning is asked for is written as it was
pub write-back : (pairs s others : List ℕ) (q : Request) (out r : List ℕ) → Bytes s → check_of pairs s ≡ accepted → tidy_bytes s ≡ s → Lent q
    → SameMeaning (requested q) (meaning_of v3 s) → Wrote (write_of others q out) out r → r ≡ s
write-back pairs s others q out r b e tidy lent same w =
    let form : FormFor pairs (meaning_of v3 s) s = rw tidy at (accepted-form pairs s b e (tidy-small pairs s e tidy)) in
    (forms-same-iff others pairs (requested q) (meaning_of v3 s) r s (written-form others q out r lent w) form).1 same

-- ---- read record by record, and written

-- of an accepted segment: write, asked for its records one after the other, leaves what tidy leaves
pub tidy-is-write : (pairs s out r : List ℕ) → Bytes s → check_of pairs s ≡ accepted
    → Wrote (tidy_of pairs s out) out r ↔ Wrote (write_of pairs (request_for (meaning_of v3 s)) out) out r
tidy-is-write pairs s out r b e =
    let m = meaning_of v3 s in
    let met = (accepts-iff pairs s).0 e in
    let asked : AskedFor pairs m = asked-for m pairs met.0 (meaning-writable s b v3 pairs met.1) in
    let same : written_bytes (request_for m) ≡ tidy_bytes s = ap (tidy_form v3) asked.means in
    simp (tidied-iff pairs s out r, written-iff pairs (request_for m) out r) (
      λ d. (record { asks = asked.asks; small = rw same d.0.small; fits = rw same d.0.fits }, d.1 ∙ sym same),
      λ d. (record { accepts = e; small = rw same at d.0.small; fits = rw same at d.0.fits }, d.1 ∙ same),
    )

-- so a tidy segment comes back as it was
pub write-itself : (pairs s out : List ℕ) → Bytes s → check_of pairs s ≡ accepted → tidy_bytes s ≡ s → length s ≤ length out
    → Wrote (write_of pairs (request_for (meaning_of v3 s)) out) out s
write-itself pairs s out b e tidy room =
    let can : Tidiable pairs s (length out) = record { accepts = e; small = tidy-small pairs s e tidy; fits = rw tidy room } in
    (tidy-is-write pairs s out s b e).0 ((tidied-iff pairs s out s).1 (can, sym tidy))
