-- An item that may be written, and its row in the meaning: the row's parts are the item's numbers, its record is the row's, and items sorted by their
-- keys are rows sorted by theirs.
-- Assumes nothing.
use Prim.Native.Nat.{ℕ, max}
use mathlib.Core.Path.{◌≡◌, refl, sym, ap, ◌∙◌}
use mathlib.Core.Bool.{Bool, true, false, cond}
use mathlib.Core.List.{List, [], ◌∷◌, map}
use native.Mathlib.Omega.{arith}
use borrow.Author.Tests.{eqb-true, eqb-false}
use lib.Dec.{eqb}
use lib.ListN.{length, drop, length-append, length-drop}
use lib.Seq.{length-take-le}
use Rattle.lists.proofs.Tests.{by-test}
use Rattle.segment.specs.declared.entry.Entry.{Entry}
use Rattle.segment.specs.Format.{extents_at}
use Rattle.lists.specs.Lists.{insert, sort_by, Each}
use Rattle.segment.specs.Check.{sum_lengths}
use Rattle.segment.specs.Meaning.{Row, row_key, row_extents, source_of}
use Rattle.segment.specs.Tidy.{imported_of, domain_of, flags_of, extents_place, record_for, digest_bytes, extent_total, largest_visibility, row_leq}
use Rattle.segment.specs.Write.{entry_no, extents_from}
use Rattle.segment.proofs.ListedExtents.{listed-counted}
use Rattle.segment.proofs.Sources.{imported-again, source-again}
use Rattle.segment.proofs.Extents.{extents-counted}
use Rattle.key.specs.declared.Kind.{Kind}
use Rattle.key.specs.declared.Kind.TheVariants.{Records, Entries}
use Rattle.key.specs.Items.{record_span, entry_span, item_hash, item_span, item_digest, item_key, Item}
use Rattle.key.specs.ItemOrder.{item_leq}
use Rattle.key.specs.Lent.{Readable}
use Rattle.put_item.specs.declared.Source.{Source}
use Rattle.put_item.specs.Sources.{rows_in, CountedIn, LinesIn, measured_in}
use Rattle.put_item.specs.Lines.{record_entry, item_entry, item_extents, item_total, extents_of_entry, row_of_entry, item_row, item_rows, Counted, Line, Lines, record_of_entry, measured}

-- ---- an item's key is its row's

span-starts : (kind : Kind) (bytes list : List ℕ) (k : ℕ) → (item_span kind bytes list k).start ≡ (item_entry kind bytes list k).digest_start
unfolding item_span record_span entry_span item_entry record_entry entry_no
span-starts (Records from sh) bytes list k = refl
span-starts Entries bytes list k = refl

span-size : (kind : Kind) (bytes list : List ℕ) (k : ℕ) → (item_span kind bytes list k).size ≡ (item_entry kind bytes list k).digest_length
unfolding item_span record_span entry_span item_entry record_entry entry_no
span-size (Records from sh) bytes list k = refl
span-size Entries bytes list k = refl

hash-is : (kind : Kind) (bytes list : List ℕ) (k : ℕ) → item_hash kind bytes list k ≡ (item_entry kind bytes list k).hash_id
unfolding item_hash item_entry record_entry entry_no
hash-is (Records from sh) bytes list k = refl
hash-is Entries bytes list k = refl

module _ (kind : Kind) (bytes list extents : List ℕ) (k : ℕ) where
  pub row-digest : item_digest kind bytes list k ≡ (item_row kind bytes list extents k).key.digest
  unfolding item_digest item_row row_of_entry
  row-digest = rw (span-starts kind bytes list k, span-size kind bytes list k)

  row-key : item_key kind bytes list k ≡ row_key (item_row kind bytes list extents k)
  unfolding item_key item_row row_of_entry
  row-key = rw (hash-is kind bytes list k) (ap (λ (d : List ℕ). (item_entry kind bytes list k).hash_id ∷ d) row-digest)

  pub row-digest-length : Item kind bytes list k → length (item_row kind bytes list extents k).key.digest ≡ (item_entry kind bytes list k).digest_length
  unfolding item_row row_of_entry
  row-digest-length i =
      let e = item_entry kind bytes list k in
      length-take-le e.digest_length (drop e.digest_start bytes)
      (simp length-drop (omega (arith, i.digest, span-starts kind bytes list k, span-size kind bytes list k)))

row-leq : (kind : Kind) (bytes list extents : List ℕ) (i j : ℕ)
    → item_leq kind bytes list i j ≡ row_leq (item_row kind bytes list extents i) (item_row kind bytes list extents j)
unfolding item_leq
row-leq kind bytes list extents i j = rw (row-key kind bytes list extents i, row-key kind bytes list extents j)

-- ---- sorting a list and then taking each element to another thing, or the other way about

module _ {A B : Type 0} (f : A → B) (leq : A → A → Bool) (leq' : B → B → Bool) (same : (a b : A) → leq a b ≡ leq' (f a) (f b)) where
  map-insert : (x : A) (ys : List A) → map f (insert leq x ys) ≡ insert leq' (f x) (map f ys)
  unfolding insert
  map-insert x [] = refl
  map-insert x (y ∷ ys) =
      by-test (leq x y)
      (λ t. let u : leq' (f x) (f y) ≡ true = sym (same x y) ∙ t in simp (t, u))
      (λ t. let u : leq' (f x) (f y) ≡ false = sym (same x y) ∙ t in simp (t, u) (ap (λ (q : List B). f y ∷ q) (map-insert x ys)))

  map-sort : (xs : List A) → map f (sort_by leq xs) ≡ sort_by leq' (map f xs)
  unfolding sort_by
  map-sort [] = refl
  map-sort (x ∷ xs) = map-insert x (sort_by leq xs) ∙ ap (insert leq' (f x)) (map-sort xs)

pub rows-sorted : (kind : Kind) (bytes list extents numbers : List ℕ)
    → item_rows kind bytes list extents (sort_by (item_leq kind bytes list) numbers) ≡ sort_by row_leq (item_rows kind bytes list extents numbers)
rows-sorted kind bytes list extents numbers = map-sort (item_row kind bytes list extents) (item_leq kind bytes list) row_leq (row-leq kind bytes list extents) numbers

-- ---- an item's extents

pub extents-length : (kind : Kind) (bytes extents : List ℕ) (first n : ℕ) → length (item_extents kind bytes extents first n) ≡ n
unfolding item_extents
extents-length (Records from sh) bytes extents first n = extents-counted bytes first n
extents-length Entries bytes extents first n = listed-counted extents first n

pub extents-none : (kind : Kind) (bytes extents : List ℕ) (first : ℕ) → item_extents kind bytes extents first 0 ≡ []
unfolding item_extents extents_at extents_from
extents-none (Records from sh) bytes extents first = refl
extents-none Entries bytes extents first = refl

module _ (kind : Kind) (bytes list extents : List ℕ) (k : ℕ) (l : Line kind bytes list extents k) where
  abbrev e : Entry
  e = item_entry kind bytes list k

  abbrev row : Row
  row = item_row kind bytes list extents k

  pub row-extents : row_extents row ≡ extents_of_entry kind bytes extents e
  unfolding item_row row_of_entry extents_of_entry
  row-extents =
      by-test (eqb e.gone 1)
      (λ t. let z : e.extent_count ≡ 0 = l.none (eqb-true e.gone 1 t) in rw (t, z) (sym (extents-none kind bytes extents e.first_extent)))
      (λ t. rw t)

  pub row_count : length (row_extents row) ≡ e.extent_count
  unfolding extents_of_entry
  row_count = ap length row-extents ∙ extents-length kind bytes extents e.first_extent e.extent_count

  row-imported : imported_of (source_of e.imported e.source) ≡ e.imported
  row-imported = sym (imported-again e.imported e.source l.counted.narrow.imported)

  row-source : domain_of (source_of e.imported e.source) ≡ e.source
  row-source = sym (source-again e.imported e.source l.source)

  row-flags : flags_of row.state ≡ e.gone
  unfolding item_row row_of_entry
  row-flags =
      by-test (eqb e.gone 1)
      (λ t. let z : e.gone ≡ 1 = eqb-true e.gone 1 t in rw t (sym z))
      (λ t. let z : e.gone ≡ 1 → ⊥ = eqb-false e.gone 1 t in let n = l.counted.narrow.gone in rw t (omega arith))

  row-place : (at : ℕ) → extents_place row.state at ≡ cond (eqb e.gone 1) 0 at
  unfolding item_row row_of_entry
  row-place at = by-test (eqb e.gone 1) (λ t. rw t) (λ t. rw t)

  pub row-record : (domain digestAt extents_at : ℕ)
      → record_for domain row digestAt extents_at ≡ record_of_entry e (item_total kind bytes list extents k) domain digestAt extents_at
  unfolding record_of_entry record_for item_row row_of_entry
  row-record domain digestAt extents_at =
      let sum : sum_lengths (row_extents row) ≡ item_total kind bytes list extents k = ap sum_lengths row-extents ∙ sym l.total in
      let size : length row.key.digest ≡ e.digest_length = row-digest-length kind bytes list extents k l.counted.item in
      λ j. record {
        hash_id = e.hash_id;
        digest_length = size j;
        reserved = 0;
        digest_offset = record { 0 = digestAt };
        extents_offset = record { 0 = row-place extents_at j };
        extent_count = row_count j;
        total_length = sum j;
        domain = domain;
        visibility = e.visibility;
        imported = row-imported j;
        reserved_last = 0;
        source = row-source j;
        flags = row-flags j;
      }

-- ---- what rows come to

-- what follows from what holds of an element, of each of them
each-then : (P Q : ℕ → Type 0) → ((k : ℕ) → P k → Q k) → (ks : List ℕ) → Each P ks → Each Q ks
unfolding Each
each-then P Q f [] e = tt
each-then P Q f (k ∷ ks) e = (f k e.0, each-then P Q f ks e.1)

module _ (kind : Kind) (bytes list extents : List ℕ) where
  pub counted-lines : (numbers : List ℕ) → Lines kind bytes list extents numbers → Each (Counted kind bytes list) numbers
  counted-lines numbers l = each-then (Line kind bytes list extents) (Counted kind bytes list) (λ k h. h.counted) numbers l

  pub read-lines : (numbers : List ℕ) → Lines kind bytes list extents numbers → Each (Item kind bytes list) numbers
  read-lines numbers l = each-then (Line kind bytes list extents) (Item kind bytes list) (λ k h. h.counted.item) numbers l

  pub digests-come : (numbers : List ℕ) → Lines kind bytes list extents numbers
      → length (digest_bytes (item_rows kind bytes list extents numbers)) ≡ (measured kind bytes list numbers).digests
  unfolding Each digest_bytes measured
  digests-come [] l = refl
  digests-come (k ∷ ks) l =
      length-append (item_row kind bytes list extents k).key.digest (digest_bytes (item_rows kind bytes list extents ks))
      ∙ omega (arith, row-digest-length kind bytes list extents k l.0.counted.item, digests-come ks l.1)

  pub extents-come : (numbers : List ℕ) → Lines kind bytes list extents numbers
      → extent_total (item_rows kind bytes list extents numbers) ≡ (measured kind bytes list numbers).extents
  unfolding Each extent_total measured
  extents-come [] l = refl
  extents-come (k ∷ ks) l = omega (arith, row_count kind bytes list extents k l.0, extents-come ks l.1)

  pub visibility-comes : (numbers : List ℕ) → largest_visibility (item_rows kind bytes list extents numbers) ≡ (measured kind bytes list numbers).visibility
  unfolding largest_visibility measured item_row row_of_entry
  visibility-comes [] = refl
  visibility-comes (k ∷ ks) = ap (max (item_entry kind bytes list k).visibility) (visibility-comes ks)

-- the same of a source
module _ (source : Source) where
  pub counted-in : (numbers : List ℕ) → LinesIn source numbers → Each (CountedIn source) numbers
  counted-in numbers l = counted-lines source.items.kind source.items.bytes.now source.items.list.now source.extents.now numbers l

  pub read-in : (numbers : List ℕ) → LinesIn source numbers → Each (Readable source.items) numbers
  read-in numbers l = read-lines source.items.kind source.items.bytes.now source.items.list.now source.extents.now numbers l

  pub digests-in : (numbers : List ℕ) → LinesIn source numbers
      → length (digest_bytes (rows_in source numbers)) ≡ (measured_in source numbers).digests
  digests-in numbers l = digests-come source.items.kind source.items.bytes.now source.items.list.now source.extents.now numbers l

  pub extents-in : (numbers : List ℕ) → LinesIn source numbers
      → extent_total (rows_in source numbers) ≡ (measured_in source numbers).extents
  extents-in numbers l = extents-come source.items.kind source.items.bytes.now source.items.list.now source.extents.now numbers l

  pub visibility-in : (numbers : List ℕ) → largest_visibility (rows_in source numbers) ≡ (measured_in source numbers).visibility
  visibility-in numbers = visibility-comes source.items.kind source.items.bytes.now source.items.list.now source.extents.now numbers
