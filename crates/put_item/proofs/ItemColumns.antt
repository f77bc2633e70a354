-- What each kind of source says of an item: where it stands, its nine numbers, its extents and its total.
-- Assumes nothing.
use Prim.Native.Nat.{ℕ, suc, ◌+◌, ◌-◌, ◌*◌, ◌%◌, ◌^◌, ◌≤◌, ◌<◌}
use mathlib.Core.Path.{◌≡◌, sym, subst, ◌∙◌}
use mathlib.Core.List.{List}
use native.Mathlib.Numerals.{add-one}
use native.Mathlib.Omega.{arith}
use lib.ListN.{length, get_or}
use Rattle.numbers.proofs.NumberLaws.{bytes_of_mod}
use Rattle.segment.specs.declared.record.Record.{Record}
use Rattle.segment.specs.declared.extent.Extent.{Extent}
use Rattle.segment.specs.declared.entry.Entry.{Entry}
use Rattle.offset.specs.declared.FileOffset.{FileOffset}
use Rattle.segment.specs.declared.shape.Shape.{Shape}
use Rattle.segment.specs.Format.{in_block, record_from, total_in, record_of, extent_of}
use Rattle.segment.specs.Check.{sum_lengths}
use Rattle.segment.specs.Tidy.{packed, extent_fields}
use Rattle.segment.specs.Write.{entry_no, listed_extent, extents_from}
use Rattle.key.specs.declared.Kind.{Kind}
use Rattle.key.specs.declared.Kind.TheVariants.{Records, Entries}
use Rattle.put_item.specs.Lines.{record_entry, item_entry, item_extent, Held, item_total, Line}

-- ---- an item's numbers

module _ (kind : Kind) (bytes list : List ℕ) (k : ℕ) where
  pub record-entry : (first : FileOffset) (sh : Shape) (r : Record) (e : Entry) → kind ≡ Records first sh → r ≡ record_of sh bytes (record_from sh first.0 k)
      → e ≡ record_entry r → e ≡ item_entry kind bytes list k
  unfolding item_entry
  record-entry first sh r e q h i = rw (q, i, h)

  pub entry-entry : (e : Entry) → kind ≡ Entries → e ≡ entry_no list k → e ≡ item_entry kind bytes list k
  unfolding item_entry
  entry-entry e q h = rw (q, h)

-- ---- an extent

-- numbers cut to their fields have the bytes of the numbers
pub cut-extent : (xs : List ℕ) (j : ℕ)
    → packed (extent_fields (record { block = get_or xs (3 * j) 0; offset = in_block (get_or xs (3 * j + 1) 0 % 256 ^ 4); length = get_or xs (3 * j + 2) 0 % 256 ^ 4 }))
    ≡ packed (extent_fields (listed_extent xs j))
unfolding packed extent_fields listed_extent
cut-extent xs j = rw (bytes_of_mod 4 (get_or xs (3 * j + 1) 0), bytes_of_mod 4 (get_or xs (3 * j + 2) 0))

module _ (kind : Kind) (bytes extents : List ℕ) (first : ℕ) where
  pub record-held : (from : FileOffset) (sh : Shape) (n : ℕ) → kind ≡ Records from sh → Held kind bytes extents first n → first + 16 * n ≤ length bytes
  unfolding Held
  record-held from sh n e h = subst (λ (q : Kind). Held q bytes extents first n) e h

  pub entry-held : (n : ℕ) → kind ≡ Entries → Held kind bytes extents first n → 3 * (first + n) ≤ length extents
  unfolding Held
  entry-held n e h = subst (λ (q : Kind). Held q bytes extents first n) e h

  pub record-extent : (j : ℕ) (from : FileOffset) (sh : Shape) (r : Extent) → kind ≡ Records from sh → r ≡ extent_of bytes (first + 16 * j)
      → packed (extent_fields r) ≡ packed (extent_fields (item_extent kind bytes extents first j))
  unfolding item_extent
  record-extent j from sh r e h = rw (e, h)

  pub entry-extent : (j : ℕ) (r : Extent) → kind ≡ Entries → packed (extent_fields r) ≡ packed (extent_fields (listed_extent extents (first + j)))
      → packed (extent_fields r) ≡ packed (extent_fields (item_extent kind bytes extents first j))
  unfolding item_extent
  entry-extent j r e h = rw e h

-- ---- a total

-- the extents before the j-th are added up
pub record Adding (xs : List ℕ) (first count j sum : ℕ) : Type 0 where
  pub within : j ≤ first + count
  pub same : sum_lengths (extents_from xs first count) ≡ sum + sum_lengths (extents_from xs j (first + count - j))

pub adding-start : (xs : List ℕ) (first count : ℕ) → Adding xs first count first 0
adding-start xs first count =
    let f : first + count - first ≡ count = omega arith in
    record { within = omega arith; same = rw f (omega arith) }

module _ (xs : List ℕ) (first count j sum : ℕ) (a : Adding xs first count j sum) where
  one_left : j < first + count → sum_lengths (extents_from xs j (first + count - j)) ≡ get_or xs (3 * j + 2) 0 + sum_lengths (extents_from xs (j + 1) (first + count - (j + 1)))
  unfolding sum_lengths extents_from listed_extent
  one_left h =
      let e : first + count - j ≡ suc (first + count - (j + 1)) = omega arith in
      rw (e, add-one)

  pub adding-fits : j < first + count → sum_lengths (extents_from xs first count) < 18446744073709551616 → sum + get_or xs (3 * j + 2) 0 < 18446744073709551616
  adding-fits h l = omega (arith, a.same, one_left h)

  pub adding-more : j < first + count → Adding xs first count (j + 1) (sum + get_or xs (3 * j + 2) 0)
  adding-more h = record { within = omega arith; same = omega (arith, a.same, one_left h) }

  pub adding-done : first + count ≤ j → sum ≡ sum_lengths (extents_from xs first count)
  unfolding sum_lengths extents_from
  adding-done h =
      let e : first + count - j ≡ 0 = omega arith in
      sym (a.same ∙ rw e (omega arith))

module _ (kind : Kind) (bytes list extents : List ℕ) (k : ℕ) where
  pub record-total : (first : FileOffset) (sh : Shape) (at r : ℕ) → kind ≡ Records first sh → at ≡ record_from sh first.0 k → r ≡ total_in sh.total_wide bytes at
      → r ≡ item_total kind bytes list extents k
  unfolding item_total record_of
  record-total first sh at r e b h = rw (e, h, b)

  -- an entry's numbers by value
  module _ (x : Entry) (q : kind ≡ Entries) (h : x ≡ entry_no list k) where
    pub listed-held : Line kind bytes list extents k → 3 * (x.first_extent + x.extent_count) ≤ length extents
    unfolding item_entry Held
    listed-held l =
        rw h (subst (λ (o : Kind). Held o bytes extents (item_entry o bytes list k).first_extent (item_entry o bytes list k).extent_count) q l.held)

    pub listed-fits : Line kind bytes list extents k → sum_lengths (extents_from extents x.first_extent x.extent_count) < 18446744073709551616
    unfolding item_total
    listed-fits l = rw h (subst (λ (o : Kind). item_total o bytes list extents k < 18446744073709551616) q l.fits)

    pub entry-total : (r : ℕ) → r ≡ sum_lengths (extents_from extents x.first_extent x.extent_count) → r ≡ item_total kind bytes list extents k
    unfolding item_total
    entry-total r i = rw (q, i, h)
