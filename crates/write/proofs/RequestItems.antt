-- A request that is accepted: each of its entries may be written, and its tidy form is that of its items.
-- Assumes nothing.
use Prim.Native.Nat.{ℕ, ◌≤◌, ◌<◌}
use mathlib.Core.Path.{◌≡◌, refl, ap, ◌∙◌}
use mathlib.Core.Bool.{true, false}
use mathlib.Core.List.{List}
use native.Mathlib.Omega.{arith}
use lib.ListN.{length}
use Rattle.std.specs.Prelude.{Err}
use Rattle.answer.specs.Rules.{accepted}
use Rattle.answer.specs.declared.Rule.TheVariants.{Table as TableWrong}
use Rattle.answer.specs.Answers.{refusal, Written}
use Rattle.segment.specs.declared.header.Heading.{Heading}
use Rattle.segment.specs.declared.shape.Shape.{Shape}
use Rattle.segment.specs.Format.{v3}
use Rattle.segment.specs.Shapes.{Shaped}
use Rattle.segment.proofs.Shapes.{shaped-limit}
use Rattle.table.specs.Table.{good_table, table_verdict}
use Rattle.segment.specs.Tidy.{tidy_form, settled, outcome}
use Rattle.segment.specs.Write.{Request, entry_count, entry_no, entry_row, entry_digest_bytes, request_rules, request_verdict, requested, wrote, write_of}
use Rattle.table.proofs.Pairs.{allowed-small}
use Rattle.key.specs.declared.Kind.TheVariants.{Entries}
use Rattle.put_item.specs.Lines.{item_entry, item_extents, Held, item_total, extents_of_entry, row_of_entry, item_row, Line}
use Rattle.write_book.proofs.RequestBook.{request-book, request-items}
use Rattle.put_tidy.specs.ItemsForm.{AllLines, items_form}
use Rattle.put_form.specs.Emit.{EmittedAfter}
use Rattle.put_tidy.proofs.EmittedAfter.{emitted-under, emitted-outcome}
use Rattle.write.specs.Seal.{asked}

module _ (sh : Shape) (w : Shaped sh) (pairs bloom entries digests extents : List ℕ) (g : good_table pairs ≡ true) (a : request_rules sh pairs (length bloom) entries digests extents ≡ accepted) where
  entry-line : (k : ℕ) → k < entry_count entries → Line Entries digests entries extents k
  unfolding item_entry Held item_total extents_of_entry item_extents
  entry-line k h =
      let r = (request-book sh pairs entries digests extents (length bloom)).0 a in
      let e = r.each k h in
      let s = allowed-small pairs (entry_no entries k).hash_id (entry_no entries k).digest_length g e.allowed in
      record {
        counted = record {
          item = (request-items sh pairs entries digests extents (length bloom) a).each k h;
          narrow = record {
            hash = s.0;
            digest = s.1;
            visibility = e.marks.visibility;
            imported = e.marks.imported;
            source = e.marks.source;
            gone = e.marks.gone;
            extents = e.places.count;
          };
        };
        source = e.marks.own;
        none = e.places.gone_count;
        held = omega (arith, e.lists.slices);
        total = refl;
        fits = omega (arith, e.total.sum, shaped-limit sh w);
      }

  pub entry-lines : AllLines Entries digests entries extents (entry_count entries)
  entry-lines = record { each = entry-line }

  pub few-entries : entry_count entries ≤ 65536
  few-entries = ((request-book sh pairs entries digests extents (length bloom)).0 a).few

pub same-form : (sh : Shape) (t : Heading) (bloom entries digests extents : List ℕ)
    → items_form sh t bloom Entries digests entries extents (entry_count entries) ≡ tidy_form sh (requested (asked t bloom entries digests extents))
unfolding items_form requested item_row row_of_entry item_entry extents_of_entry item_extents entry_row entry_digest_bytes
same-form sh t bloom entries digests extents = refl

-- ---- the table before the rest

module _ (pairs : List ℕ) (q : Request) (out : List ℕ) where
  pub table-bad : good_table pairs ≡ false → outcome (Err (refusal TableWrong 0)) out ≡ write_of pairs q out
  unfolding write_of wrote settled request_verdict table_verdict
  table-bad e = rw e

  under_table : good_table pairs ≡ true → request_rules v3 pairs (length q.bloom) q.entries q.digests q.extents ≡ request_verdict v3 pairs q
  unfolding request_verdict table_verdict
  under_table g = rw g

  pub table-good : (pairs' after : List ℕ) (w : Written) → good_table pairs ≡ true → pairs' ≡ pairs
      → EmittedAfter (request_rules v3 pairs' (length q.bloom) q.entries q.digests q.extents) (tidy_form v3 (requested q)) out after w
      → outcome w after ≡ write_of pairs q out
  unfolding write_of wrote
  table-good pairs' after w g e h =
      let l = emitted-under (request_verdict v3 pairs q) (tidy_form v3 (requested q)) out _ after w (ap (λ (p : List ℕ). request_rules v3 p (length q.bloom) q.entries q.digests q.extents) e ∙ under_table g) h in
      emitted-outcome (request_verdict v3 pairs q) (tidy_form v3 (requested q)) out after w l
