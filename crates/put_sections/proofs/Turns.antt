-- A turn of the loops over the items: the next item's part of a section is put behind those of the items before it.
-- Assumes nothing.
use Prim.Native.Nat.{ℕ, ◌+◌, ◌*◌, ◌≤◌, ◌<◌}
use mathlib.Core.Path.{◌≡◌, refl, ap, ◌∙◌}
use mathlib.Core.List.{List, [], ◌++◌}
use native.Mathlib.Numerals.{add-one}
use native.Mathlib.Nat.{mul-le-mul_left}
use native.Mathlib.Omega.{arith}
use lib.ListN.{length, get_or, drop, drop_of_length-le, length-map}
use lib.Seq.{drop-cons}
use Rattle.numbers.specs.Numbers.{put}
use Rattle.numbers.proofs.NumberLaws.{length-put}
use Rattle.segment.specs.declared.header.Header.{Header}
use Rattle.segment.specs.declared.record.Record.{Record}
use Rattle.segment.specs.declared.entry.Entry.{Entry}
use Rattle.segment.specs.declared.shape.Shape.{Shape}
use Rattle.segment.specs.Format.{digests_offset, extents_offset}
use Rattle.segment.specs.Tidy.{packed, record_fields, records_bytes, extent_list_bytes, extent_bytes}
use Rattle.form_laws.proofs.Structures.{extents-long}
use Rattle.segment.specs.Shapes.{Shaped}
use Rattle.form_laws.proofs.Shapes.{record-long}
use Rattle.form_laws.proofs.Sizes.{records-long}
use Rattle.key.specs.declared.Kind.{Kind}
use Rattle.key.specs.Items.{item_digest}
use Rattle.lists.proofs.Each.{each_at}
use Rattle.put_item.specs.Lines.{item_entry, item_extents, Held, item_total, extents_of_entry, item_row, item_rows, Narrow, Line, Lines, record_of_entry}
use Rattle.put_item.proofs.ItemRows.{extents-length, row-extents, row_count, row-digest-length, row-record}
use Rattle.put_sections.specs.Sections.{Near, item_digests}
use Rattle.put_sections.proofs.Filling.{Filling, filling-start, filling-done, filling-room, filling-more}

-- ---- records

-- k records of a shape stand; the next one's digest and extents go to d and x
pub record Recording (sh : Shape) (h : Header) (kind : Kind) (bytes list extents numbers out₀ : List ℕ) (k d x : ℕ) (out : List ℕ) : Type 0 where
  pub within : k ≤ length numbers
  pub same : length out ≡ length out₀
  pub short : d ≤ digests_offset h + 1024 * k
  pub few : x ≤ extents_offset h + 68719476736 * k
  pub filling : Filling (records_bytes sh h.domain (item_rows kind bytes list extents numbers) (digests_offset h) (extents_offset h)) out (sh.record_size * k)
      (records_bytes sh h.domain (item_rows kind bytes list extents (drop k numbers)) d x)

-- the next record's bytes lie in the output
pub record-room : (size n k m : ℕ) → k < n → m ≡ size * n → size * k + size ≤ m
record-room size n k m l e = omega (arith, mul-le-mul_left size l)

module _ (sh : Shape) (wf : Shaped sh) (h : Header) (kind : Kind) (bytes list extents numbers out₀ : List ℕ) where
  abbrev all : List ℕ
  all = records_bytes sh h.domain (item_rows kind bytes list extents numbers) (digests_offset h) (extents_offset h)

  pub recording-start : Recording sh h kind bytes list extents numbers out₀ 0 (digests_offset h) (extents_offset h) out₀
  recording-start =
      let z : sh.record_size * 0 ≡ 0 = omega arith in
      record { within = omega arith; same = refl; short = omega arith; few = omega arith; filling = rw z (filling-start all out₀) }

  module _ (k d x : ℕ) (out : List ℕ) (w : Recording sh h kind bytes list extents numbers out₀ k d x out) where
    module _ (e : Entry) (l : k < length numbers) (q : e ≡ item_entry kind bytes list (get_or numbers k 0)) (ls : Lines kind bytes list extents numbers) where
      here : Line kind bytes list extents (get_or numbers k 0)
      here = each_at (Line kind bytes list extents) numbers k ls l

      pub record-narrow : Narrow e
      record-narrow = rw q here.counted.narrow

      -- the places behind this record's digest and extents fit a number
      pub record-fits : Near h numbers → (d + e.digest_length < 18446744073709551616) × (x + 16 * e.extent_count < 18446744073709551616)
      record-fits near =
          let s = record-narrow in
          (omega (arith, s.digest, w.short, near.few, near.digests), omega (arith, s.extents, w.few, near.few, near.extents))

      next : records_bytes sh h.domain (item_rows kind bytes list extents (drop k numbers)) d x
          ≡ packed (record_fields sh (record_of_entry e (item_total kind bytes list extents (get_or numbers k 0)) h.domain d x))
          ++ records_bytes sh h.domain (item_rows kind bytes list extents (drop (k + 1) numbers)) (d + e.digest_length) (x + 16 * e.extent_count)
      unfolding records_bytes
      next =
          rw (
            drop-cons numbers k 0 l,
            add-one,
            q,
            row-record kind bytes list extents (get_or numbers k 0) here h.domain d x,
            row-digest-length kind bytes list extents (get_or numbers k 0) here.counted.item,
            row_count kind bytes list extents (get_or numbers k 0) here,
          )

      pub recording-more : (total : ℕ) (r : Record) (out' : List ℕ) → total ≡ item_total kind bytes list extents (get_or numbers k 0)
          → r ≡ record_of_entry e total h.domain d x → out' ≡ put out (sh.record_size * k) (packed (record_fields sh r)) → length out₀ ≡ sh.record_size * length numbers
          → Recording sh h kind bytes list extents numbers out₀ (k + 1) (d + e.digest_length) (x + 16 * e.extent_count) out'
      recording-more total r out' t p u n =
          let bs : List ℕ = packed (record_fields sh r) in
          let i : length bs ≡ sh.record_size = record-long sh wf r in
          let f : records_bytes sh h.domain (item_rows kind bytes list extents (drop k numbers)) d x
          ≡ bs ++ records_bytes sh h.domain (item_rows kind bytes list extents (drop (k + 1) numbers)) (d + e.digest_length) (x + 16 * e.extent_count) =
          next ∙ rw (p, t) in
          let room : sh.record_size * k + length bs ≤ length out = omega (arith, i, record-room sh.record_size (length numbers) k (length out) l (w.same ∙ n)) in
          let g = filling-more all out (sh.record_size * k) _ w.filling bs _ f out' u room in
          let j : sh.record_size * k + length bs ≡ sh.record_size * (k + 1) = omega arith in
          let s = record-narrow in
          record {
            within = omega arith;
            same = ap length u ∙ length-put out (sh.record_size * k) bs room ∙ w.same;
            short = omega (arith, w.short);
            few = omega (arith, w.few);
            filling = rw j at g;
          }

    pub recording-done : length numbers ≤ k → length out₀ ≡ sh.record_size * length numbers → out ≡ all
    unfolding records_bytes
    recording-done l n =
        let rows = item_rows kind bytes list extents numbers in
        let m : length out₀ ≡ length all =
        omega (
          arith,
          records-long sh wf h.domain rows (digests_offset h) (extents_offset h),
          ap (λ (n : ℕ). sh.record_size * n) (length-map numbers (item_row kind bytes list extents)),
        ) in
        let z : records_bytes sh h.domain (item_rows kind bytes list extents (drop k numbers)) d x ≡ [] = rw (drop_of_length-le numbers l) in
        filling-done all out (sh.record_size * k) _ w.filling z (w.same ∙ m)

-- ---- digests

pub record Digesting (kind : Kind) (bytes list numbers out₀ : List ℕ) (k at : ℕ) (out : List ℕ) : Type 0 where
  pub within : k ≤ length numbers
  pub same : length out ≡ length out₀
  pub filling : Filling (item_digests kind bytes list numbers) out at (item_digests kind bytes list (drop k numbers))

module _ (kind : Kind) (bytes list numbers out₀ : List ℕ) where
  pub digesting-start : Digesting kind bytes list numbers out₀ 0 0 out₀
  digesting-start = record { within = omega arith; same = refl; filling = filling-start (item_digests kind bytes list numbers) out₀ }

  module _ (k at : ℕ) (out : List ℕ) (w : Digesting kind bytes list numbers out₀ k at out) where
    module _ (l : k < length numbers) (digest : List ℕ) (q : digest ≡ item_digest kind bytes list (get_or numbers k 0)) where
      next-digest : item_digests kind bytes list (drop k numbers) ≡ digest ++ item_digests kind bytes list (drop (k + 1) numbers)
      unfolding item_digests
      next-digest = rw (drop-cons numbers k 0 l, add-one, q)

      pub digesting-room : length out₀ ≡ length (item_digests kind bytes list numbers) → at + length digest ≤ length out
      digesting-room n = filling-room (item_digests kind bytes list numbers) out at _ w.filling digest _ next-digest (w.same ∙ n)

      pub digesting-more : (out' : List ℕ) → out' ≡ put out at digest → length out₀ ≡ length (item_digests kind bytes list numbers)
          → Digesting kind bytes list numbers out₀ (k + 1) (at + length digest) out'
      digesting-more out' p n = record {
        within = omega arith;
        same = ap length p ∙ length-put out at digest (digesting-room n) ∙ w.same;
        filling = filling-more (item_digests kind bytes list numbers) out at _ w.filling digest _ next-digest out' p (digesting-room n);
      }

    pub digesting-done : length numbers ≤ k → length out₀ ≡ length (item_digests kind bytes list numbers) → out ≡ item_digests kind bytes list numbers
    unfolding item_digests
    digesting-done l n =
        let z : item_digests kind bytes list (drop k numbers) ≡ [] = rw (drop_of_length-le numbers l) in
        filling-done (item_digests kind bytes list numbers) out at _ w.filling z (w.same ∙ n)

-- ---- extents

pub record Extending (kind : Kind) (bytes list extents numbers out₀ : List ℕ) (k at : ℕ) (out : List ℕ) : Type 0 where
  pub within : k ≤ length numbers
  pub same : length out ≡ length out₀
  pub filling : Filling (extent_bytes (item_rows kind bytes list extents numbers)) out at (extent_bytes (item_rows kind bytes list extents (drop k numbers)))

module _ (kind : Kind) (bytes list extents numbers out₀ : List ℕ) where
  abbrev every : List ℕ
  every = extent_bytes (item_rows kind bytes list extents numbers)

  pub extending-start : Extending kind bytes list extents numbers out₀ 0 0 out₀
  extending-start = record { within = omega arith; same = refl; filling = filling-start every out₀ }

  module _ (k at : ℕ) (out : List ℕ) (w : Extending kind bytes list extents numbers out₀ k at out) where
    module _ (e : Entry) (l : k < length numbers) (q : e ≡ item_entry kind bytes list (get_or numbers k 0)) (ls : Lines kind bytes list extents numbers) where
      abbrev own : List ℕ
      own = extent_list_bytes (item_extents kind bytes extents e.first_extent e.extent_count)

      own-long : length own ≡ 16 * e.extent_count
      own-long =
          extents-long (item_extents kind bytes extents e.first_extent e.extent_count)
          ∙ ap (λ (n : ℕ). 16 * n) (extents-length kind bytes extents e.first_extent e.extent_count)

      next-extents : extent_bytes (item_rows kind bytes list extents (drop k numbers)) ≡ own ++ extent_bytes (item_rows kind bytes list extents (drop (k + 1) numbers))
      unfolding extent_bytes extents_of_entry
      next-extents =
          let i = each_at (Line kind bytes list extents) numbers k ls l in
          rw (drop-cons numbers k 0 l, add-one, q, row-extents kind bytes list extents (get_or numbers k 0) i)

      pub extents-held : Held kind bytes extents e.first_extent e.extent_count
      extents-held = rw q (each_at (Line kind bytes list extents) numbers k ls l).held

      pub extending-room : length out₀ ≡ length every → at + 16 * e.extent_count ≤ length out
      extending-room n =
          let r = filling-room every out at _ w.filling own _ next-extents (w.same ∙ n) in
          omega (arith, own-long)

      pub extending-more : (out' : List ℕ) → out' ≡ put out at own → length out₀ ≡ length every
          → Extending kind bytes list extents numbers out₀ (k + 1) (at + 16 * e.extent_count) out'
      extending-more out' p n =
          let r = filling-room every out at _ w.filling own _ next-extents (w.same ∙ n) in
          let g = filling-more every out at _ w.filling own _ next-extents out' p r in
          record { within = omega arith; same = ap length p ∙ length-put out at own r ∙ w.same; filling = rw own-long at g }

    pub extending-done : length numbers ≤ k → length out₀ ≡ length every → out ≡ every
    unfolding extent_bytes
    extending-done l n =
        let z : extent_bytes (item_rows kind bytes list extents (drop k numbers)) ≡ [] = rw (drop_of_length-le numbers l) in
        filling-done every out at _ w.filling z (w.same ∙ n)
