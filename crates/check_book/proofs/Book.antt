-- The rules in order, of which the first that is broken is the answer, and the rule book, which has no order, say the same.
-- Assumes nothing.
use Prim.Native.Nat.{ℕ, ◌<◌}
use mathlib.Core.Path.{◌≡◌}
use mathlib.Core.Bool.{true}
use mathlib.Core.Logic.Iff
use mathlib.Core.Logic.{◌↔◌}
use mathlib.Core.List.{List}
use Rattle.answer.specs.Rules.{first_over, accepted}
use Rattle.answer.proofs.Order.{then-accepted, first-accepted}
use Rattle.segment.specs.declared.header.Header.{Header}
use Rattle.segment.specs.declared.shape.Shape.{Shape}
use Rattle.segment.specs.Format.{v3, record_no}
use Rattle.table.specs.Table.{good_table}
use Rattle.segment.specs.Shapes.{Shaped}
use Rattle.segment.proofs.Shapes.{v3-shaped}
use Rattle.segment.specs.Check.{record_verdict, segment_rules, segment_verdict, checked}
use Rattle.segment.specs.Meets.{RecordMeets, Meets}
use Rattle.key.proofs.Duplicates.{keys-book}
use Rattle.check_book.proofs.TablesHeader.{table-book, size-book, head-book, layout-book, checksum-book}
use Rattle.check_book.proofs.TablesRecord.{record-book}
use Rattle.check_book.proofs.TablesVisibility.{visibility-book}

-- a run of the records is accepted exactly when each of them meets the rules
pub records-book : (sh : Shape) (pairs s : List ℕ) (h : Header) (n : ℕ)
    → first_over n (record_verdict sh pairs s h) ≡ accepted ↔ ((k : ℕ) → k < n → RecordMeets sh pairs s h (record_no sh s h k))
records-book sh pairs s h n = simp (first-accepted, record-book) Iff.rfl

pub segment-book : (sh : Shape) → Shaped sh → (pairs s : List ℕ) → segment_verdict sh pairs s ≡ accepted ↔ Meets sh pairs s
unfolding segment_verdict segment_rules
segment-book sh w pairs s =
    simp (then-accepted, size-book, head-book, layout-book sh w, checksum-book, records-book, visibility-book, keys-book) (
      λ a. record {
        size = a.0;
        magic = a.1.0.0;
        version = a.1.0.1;
        header = a.1.0.2;
        layout = a.1.1.0;
        checksum = a.1.1.1.0;
        each = a.1.1.1.1.0;
        visibility = a.1.1.1.1.1.0;
        distinct = a.1.1.1.1.1.1;
      },
      λ m. (m.size, ((m.magic, m.version, m.header), (m.layout, (m.checksum, (m.each, (m.visibility, m.distinct)))))),
    )

-- under a good table check answers by every rule but 14
pub under_table : (pairs s : List ℕ) → good_table pairs ≡ true → checked pairs s ≡ segment_verdict v3 pairs s
unfolding checked
under_table pairs s g = rw ((table-book pairs).1 g)

pub checked-iff : (pairs s : List ℕ) → good_table pairs ≡ true → checked pairs s ≡ accepted ↔ Meets v3 pairs s
checked-iff pairs s g = rw (under_table pairs s g) (segment-book v3 v3-shaped pairs s)
