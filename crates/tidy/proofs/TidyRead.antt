-- A segment that can be read: each of its records may be written, and its tidy form is that of its records.
-- Assumes nothing.
use Prim.Native.Nat.{ℕ, ◌+◌, ◌-◌, ◌≤◌, ◌<◌}
use mathlib.Core.Path.{◌≡◌, refl, sym, ap, ◌∙◌}
use mathlib.Core.Bool.{true, false}
use mathlib.Core.List.{List}
use native.Mathlib.Omega.{arith}
use lib.ListN.{length, take, drop}
use Rattle.std.specs.Prelude.{Err}
use Rattle.numbers.specs.Numbers.{Bytes}
use Rattle.numbers.proofs.NumberLaws.{num-fits}
use Rattle.answer.specs.declared.Rule.TheVariants.{Table as TableWrong}
use Rattle.answer.specs.Answers.{refusal, Written}
use Rattle.segment.specs.declared.header.Header.{Header}
use Rattle.segment.specs.declared.header.Heading.{Heading}
use Rattle.segment.specs.declared.shape.Shape.{Shape}
use Rattle.segment.specs.Format.{v3, header_of, record_at, record_of, record_no, record_count, records_offset, bloom_size}
use Rattle.segment.proofs.Shapes.{shaped-limit}
use Rattle.table.specs.Table.{good_table, table_verdict}
use Rattle.segment.specs.Check.{digest_in, segment_verdict, checked}
use Rattle.segment.specs.Meaning.{row_of, row_no, rows_of, heading_of, meaning_of}
use Rattle.segment.specs.Tidy.{tidy_form, settled, outcome, tidied, tidy_of}
use Rattle.check_book.specs.Readable.{Readable}
use Rattle.check_book.proofs.Readable.{items}
use Rattle.check_book.proofs.Book.{under_table}
use Rattle.key.specs.declared.Kind.TheVariants.{Records}
use Rattle.put_item.specs.Lines.{record_entry, item_entry, item_extents, Held, item_total, extents_of_entry, row_of_entry, item_row, Line}
use Rattle.put_tidy.specs.ItemsForm.{AllLines, items_form}
use Rattle.put_form.specs.Emit.{EmittedAfter}
use Rattle.put_tidy.proofs.EmittedAfter.{emitted-under, emitted-outcome}

-- ---- its records

module _ (sh : Shape) (s : List ℕ) (h : Header) (v : Readable sh s h) where
  record-line : Bytes s → (list extents : List ℕ) (k : ℕ) → k < record_count h → Line (Records h.records_offset sh) s list extents k
  unfolding item_entry record_entry Held item_total extents_of_entry item_extents record_no record_of
  record-line b list extents k l =
      let r = v.each k l in
      record {
        counted = record {
          item = (items sh s list h v).each k l;
          narrow = record {
            hash = r.hash;
            digest = r.short;
            visibility = r.marks.visibility;
            imported = r.marks.imported;
            source = num-fits 4 s (record_at sh h k + 40) b;
            gone = r.marks.flags;
            extents = omega (arith, r.extents, v.laid.most);
          };
        };
        source = r.marks.source;
        none = r.none;
        held = r.extents;
        total = r.total;
        fits = omega (arith, r.limit, shaped-limit sh v.laid.shaped);
      }

  pub read-lines : Bytes s → (list extents : List ℕ) → AllLines (Records h.records_offset sh) s list extents (record_count h)
  read-lines b list extents = record { each = record-line b list extents }

  pub bloom-within : 112 + bloom_size h ≤ length s
  bloom-within = omega (arith, v.laid.layout)

-- ---- its tidy form

same-form : (sh : Shape) (s list extents : List ℕ)
    → items_form sh (heading_of s (header_of s)) (take (bloom_size (header_of s)) (drop 112 s)) (Records (header_of s).records_offset sh) s list extents (record_count (header_of s))
    ≡ tidy_form sh (meaning_of sh s)
unfolding items_form meaning_of rows_of row_no row_of record_no item_row row_of_entry item_entry record_entry extents_of_entry item_extents digest_in
same-form sh s list extents = refl

pub read-form : (sh : Shape) (s list extents : List ℕ) (h : Header) (t : Heading) → h ≡ header_of s → t ≡ heading_of s h
    → items_form sh t (take (112 + bloom_size h - 112) (drop 112 s)) (Records h.records_offset sh) s list extents (record_count h) ≡ tidy_form sh (meaning_of sh s)
read-form sh s list extents h t e f =
    let n : 112 + bloom_size h - 112 ≡ bloom_size h = omega arith in
    ap (λ (x : Heading). items_form sh x (take (112 + bloom_size h - 112) (drop 112 s)) (Records h.records_offset sh) s list extents (record_count h)) f
    ∙ ap (λ (k : ℕ). items_form sh (heading_of s h) (take k (drop 112 s)) (Records h.records_offset sh) s list extents (record_count h)) n
    ∙ ap (λ (x : Header). items_form sh (heading_of s x) (take (bloom_size x) (drop 112 s)) (Records x.records_offset sh) s list extents (record_count x)) e
    ∙ same-form sh s list extents

-- ---- the table before the rest

module _ (pairs s out : List ℕ) where
  pub table-bad : good_table pairs ≡ false → outcome (Err (refusal TableWrong 0)) out ≡ tidy_of pairs s out
  unfolding tidy_of tidied settled checked table_verdict
  table-bad e = rw e

  pub table-good : (pairs' after : List ℕ) (w : Written) → good_table pairs ≡ true → pairs' ≡ pairs
      → EmittedAfter (segment_verdict v3 pairs' s) (tidy_form v3 (meaning_of v3 s)) out after w → outcome w after ≡ tidy_of pairs s out
  unfolding tidy_of tidied
  table-good pairs' after w g e h = emitted-outcome (checked pairs s) (tidy_form v3 (meaning_of v3 s)) out after w (
      emitted-under (checked pairs s) (tidy_form v3 (meaning_of v3 s)) out _ after w (ap (λ (p : List ℕ). segment_verdict v3 p s) e ∙ sym (under_table pairs s g)) h
      )
