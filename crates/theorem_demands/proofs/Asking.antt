-- A meaning that may be written can be asked for: write takes the request that lends its records one after the other, and it asks for that meaning.
--   Says         an entry says what a state is, whose extents begin at a place
--   Standing     the digests and extents of some records stand at two places, to the end of what is lent
-- Assumes nothing.
use Prim.Native.Nat.{ℕ, suc, ◌+◌, ◌*◌, ◌≤◌, ◌<◌}
use mathlib.Core.Path.{◌≡◌, refl, sym, ap, ap₂, ◌∙◌}
use mathlib.Core.HLevel.{¬_prop}
use mathlib.Core.Bool.{true, cond}
use mathlib.Core.Logic.{◌≢◌}
use mathlib.Core.List.{List, [], ◌∷◌, map, map-map}
use native.Mathlib.Omega.{arith}
use borrow.Author.Tests.{lt-ltb, le-leb}
use lib.Dec.{lit<}
use lib.ListN.{length, length-append}
use Rattle.segment.specs.declared.entry.Entry.{Entry}
use Rattle.segment.specs.declared.extent.Extent.{Extent}
use Rattle.segment.specs.Format.{v3}
use Rattle.table.specs.Table.{good_table}
use Rattle.segment.specs.Keys.{NoKeyTwice, key_from}
use Rattle.segment.specs.Check.{sum_lengths}
use Rattle.segment.specs.Meaning.{State, gone, live, Row, row_key, extents_of_state, row_extents, Meaning, source_of}
use Rattle.lists.specs.Lists.{count_from, Each}
use Rattle.segment.specs.Tidy.{flags_of, extents_place}
use Rattle.segment.specs.Write.{key_of_entry, entry_count, listed_extents, extents_from, entry_extents, entry_gone, entry_no, all_listed_fit, entry_digest_bytes, entry_key, entry_row, requested}
use Rattle.segment.proofs.Sources.{imported-fits, own-source, source-read}
use Rattle.form_laws.specs.Form.{ExtentWritable, StateWritable, Writable, KeysApart, Contents}
use Rattle.form_laws.proofs.PartsAt.{HasAt, has-whole, has_left, has_right, has-taken}
use Rattle.lists.proofs.Counted.{each-iff, pairwise_iff}
use Rattle.segment.specs.Asked.{PlacesAsked, TotalAsked, Asked}
use Rattle.theorem_demands.specs.Asking.{flat, entry_numbers, extent_numbers, digest_of, row_extent_numbers, entry_of, entries_for, request_for, AskedFor}
use Rattle.theorem_demands.proofs.Flat.{flat-long, flat-read, entry_read, extents-read, below-flat, state-wide}

-- ---- an entry's state

record Says (e : Entry) (st : State) (at : ℕ) : Type 0 where
  gone : e.gone ≡ flags_of st
  first : e.first_extent ≡ extents_place st at
  count : e.extent_count ≡ length (extents_of_state st)

flags-fit : (st : State) → flags_of st ≤ 1
flags-fit gone = omega arith
flags-fit (live es) = omega arith

places-kept : (e : Entry) (st : State) (at : ℕ) → Says e st at → StateWritable v3 st → PlacesAsked e
places-kept e gone at m w = record { gone_first = λ g. m.first; gone_count = λ g. m.count; live = λ n. absurd (n m.gone); count = omega arith }
places-kept e (live es) at m w = record {
  gone_first = λ g. absurd (omega arith);
  gone_count = λ g. absurd (omega arith);
  live = λ n. omega arith;
  count = omega arith;
}

extents-fit : (es : List Extent) → Each ExtentWritable es → all_listed_fit es ≡ true
unfolding all_listed_fit Each
extents-fit [] w = refl
extents-fit (e ∷ es) w = rw (lt-ltb _ _ w.0.offset, lt-ltb _ _ w.0.size, le-leb _ _ w.0.inside) (extents-fit es w.1)

module _ (extents : List ℕ) (e : Entry) where
  total_kept : (st : State) (at : ℕ) → Says e st at → StateWritable v3 st → HasAt extents (3 * at) (flat extent_numbers (extents_of_state st))
      → TotalAsked v3 (entry_extents extents e)
  unfolding extents_from all_listed_fit sum_lengths
  total_kept gone at m w h = rw (m.first, m.count) (record { fits = refl; sum = omega arith })
  total_kept (live es) at m w h =
      rw (m.first, m.count, extents-read extents at es h) (record { fits = extents-fit es w.each; sum = w.total })

  state-read : (st : State) (at : ℕ) → Says e st at → HasAt extents (3 * at) (flat extent_numbers (extents_of_state st))
      → cond (entry_gone e) gone (live (entry_extents extents e)) ≡ st
  state-read gone at m h = rw m.gone
  state-read (live es) at m h = rw (m.gone, m.first, m.count) (ap live (extents-read extents at es h))

  -- the extents lie in the list
  slices-within : (st : State) (at : ℕ) → Says e st at → 3 * (at + length (extents_of_state st)) ≤ length extents
      → e.first_extent + e.extent_count ≤ listed_extents extents
  slices-within gone at m l = omega arith
  slices-within (live es) at m l = omega arith

-- ---- records one after the other

record Standing (digests extents : List ℕ) (rs : List Row) (d x : ℕ) : Type 0 where
  digest : HasAt digests d (flat digest_of rs)
  digest_end : d + length (flat digest_of rs) ≤ length digests
  slices : HasAt extents (3 * x) (flat row_extent_numbers rs)
  slices_end : 3 * x + length (flat row_extent_numbers rs) ≤ length extents

-- the row of an entry
abbrev row_for : List ℕ → List ℕ → Entry → Row
row_for digests extents e = record {
  key = key_of_entry digests e;
  visibility = e.visibility;
  source = source_of e.imported e.source;
  state = cond (entry_gone e) gone (live (entry_extents extents e));
}

says : (r : Row) (d x : ℕ) → Says (entry_of r d x) r.state x
unfolding entry_of
says r d x = record { gone = refl; first = refl; count = refl }

module _ (digests extents : List ℕ) where
  module _ (r : Row) (rs : List Row) (d x : ℕ) (s : Standing digests extents (r ∷ rs) d x) where
    long : length (row_extent_numbers r) ≡ 3 * length (row_extents r)
    long = flat-long 3 extent_numbers (λ e. refl) (row_extents r)

    first-digest : HasAt digests d r.key.digest
    unfolding flat
    first-digest = has_left r.key.digest (flat digest_of rs) s.digest

    first-slices : HasAt extents (3 * x) (row_extent_numbers r)
    unfolding flat
    first-slices = has_left (row_extent_numbers r) (flat row_extent_numbers rs) s.slices

    digest-end : d + length r.key.digest + length (flat digest_of rs) ≤ length digests
    unfolding flat
    digest-end = omega (arith, s.digest_end, length-append r.key.digest (flat digest_of rs))

    slices-end : 3 * (x + length (row_extents r)) + length (flat row_extent_numbers rs) ≤ length extents
    unfolding flat
    slices-end = omega (arith, s.slices_end, long, length-append (row_extent_numbers r) (flat row_extent_numbers rs))

    others : Standing digests extents rs (d + length r.key.digest) (x + length (row_extents r))
    unfolding flat
    others =
        let at : 3 * x + length (row_extent_numbers r) ≡ 3 * (x + length (row_extents r)) = omega (arith, long) in
        record {
          digest = has_right r.key.digest (flat digest_of rs) s.digest;
          digest_end = digest-end;
          slices = rw at at (has_right (row_extent_numbers r) (flat row_extent_numbers rs) s.slices);
          slices_end = slices-end;
        }

    row_read : row_for digests extents (entry_of r d x) ≡ r
    unfolding entry_of entry_digest_bytes
    row_read = λ j. record {
      key = key_from r.key.hash_id (has-taken r.key.digest (length r.key.digest) first-digest refl j);
      visibility = r.visibility;
      source = source-read r.source j;
      state = state-read extents (entry_of r d x) r.state x (says r d x) first-slices j;
    }

    entry-asked : (pairs : List ℕ) → Writable v3 pairs r → Asked v3 pairs digests extents (entry_of r d x)
    unfolding entry_of
    entry-asked pairs w = record {
      marks = record {
        visibility = w.visibility;
        imported = imported-fits r.source;
        gone = flags-fit r.state;
        source = w.source;
        own = own-source r.source;
      };
      lists = record {
        digest = omega (arith, digest-end);
        slices = slices-within extents (entry_of r d x) r.state x (says r d x) (omega (arith, slices-end));
      };
      allowed = w.allowed;
      places = places-kept (entry_of r d x) r.state x (says r d x) w.state;
      total = total_kept extents (entry_of r d x) r.state x (says r d x) w.state first-slices;
    }

  rows-read : (rs : List Row) (d x : ℕ) → Standing digests extents rs d x → map (row_for digests extents) (entries_for rs d x) ≡ rs
  unfolding entries_for
  rows-read [] d x s = refl
  rows-read (r ∷ rs) d x s =
      ap₂ (λ (y : Row) (ys : List Row). y ∷ ys) (row_read r rs d x s) (rows-read rs _ _ (others r rs d x s))

  entries-asked : (pairs : List ℕ) (rs : List Row) (d x : ℕ) → Standing digests extents rs d x → Each (Writable v3 pairs) rs
      → Each (Asked v3 pairs digests extents) (entries_for rs d x)
  unfolding entries_for Each
  entries-asked pairs [] d x s w = tt
  entries-asked pairs (r ∷ rs) d x s w = (entry-asked r rs d x s pairs w.0, entries-asked pairs rs _ _ (others r rs d x s) w.1)

entries-counted : (rs : List Row) (d x : ℕ) → length (entries_for rs d x) ≡ length rs
unfolding entries_for
entries-counted [] d x = refl
entries-counted (r ∷ rs) d x = ap suc (entries-counted rs _ _)

-- ---- the whole request

module _ (m : Meaning) where
  abbrev entries : List ℕ
  entries = flat entry_numbers (entries_for m.records 0 0)

  abbrev digests : List ℕ
  digests = flat digest_of m.records

  abbrev extents : List ℕ
  extents = flat row_extent_numbers m.records

  standing : Standing digests extents m.records 0 0
  standing = record { digest = has-whole digests; digest_end = omega arith; slices = has-whole extents; slices_end = omega arith }

  count-is : entry_count entries ≡ length (entries_for m.records 0 0)
  count-is = omega (arith, flat-long 9 entry_numbers (λ e. refl) (entries_for m.records 0 0))

  entries-read : map (entry_no entries) (count_from 0 (entry_count entries)) ≡ entries_for m.records 0 0
  entries-read =
      rw count-is
      (flat-read 9 entry_numbers (λ e. refl) entries (entry_no entries) (entry_read entries) 0 (entries_for m.records 0 0) (has-whole entries))

  records-read : map (entry_row entries digests extents) (count_from 0 (entry_count entries)) ≡ m.records
  unfolding entry_row
  records-read =
      sym (map-map (row_for digests extents) (entry_no entries) (count_from 0 (entry_count entries)))
      ∙ ap (map (row_for digests extents)) entries-read
      ∙ rows-read digests extents m.records 0 0 standing

  keys-differ : KeysApart m.records → NoKeyTwice (entry_key entries digests) (entry_count entries)
  unfolding entry_row entry_key
  keys-differ p i j a b e =
      let apart =
      (pairwise_iff (entry_row entries digests extents) (λ (a b : Row). row_key a ≢ row_key b) (λ a b. ¬_prop) (entry_count entries)).0 (rw records-read p) in
      let not-before : ¬ (i < j) = λ l. apart i j l b e in
      let not_after : ¬ (j < i) = λ l. apart j i l a (sym e) in
      omega arith

  pub asked-for : (pairs : List ℕ) → good_table pairs ≡ true → Contents v3 pairs m.heading m.bloom m.records → AskedFor pairs m
  unfolding request_for requested
  asked-for pairs g c = record {
    lent = record {
      heading = c.heading;
      bloom = c.bloom_bytes;
      digests = below-flat digest_of _ (Writable v3 pairs) (lit< tt) (λ r w. w.digest) m.records c.each;
      extents =
          below-flat row_extent_numbers _ (Writable v3 pairs) (lit< tt) (λ r w. state-wide r.state w.state) m.records c.each;
    };
    asks = record {
      table = g;
      asked = record {
        few = omega (arith, c.few, count-is, entries-counted m.records 0 0);
        whole = c.bloom_divides;
        each =
            (each-iff (entry_no entries) (Asked v3 pairs digests extents) (entry_count entries)).0
            (rw entries-read (entries-asked digests extents pairs m.records 0 0 standing c.each));
        fresh = keys-differ c.apart;
      };
    };
    means = λ j. record { heading = m.heading; bloom = m.bloom; records = records-read j };
  }
