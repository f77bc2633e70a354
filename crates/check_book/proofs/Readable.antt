-- A segment that meets the rules under a good table can be read; so can one that check accepts.
--   laid-inside, record-inside      the sections, and each record, lie in the file
--   digest-inside, extents-inside   what a record names lies in the file
--   items                           each record and its digest can be read
--   readable                        the rule book gives all that a reader needs
--   under-readable, checked-readable   the same from what the rules in order, and from what check, answer
-- Assumes nothing.
use Prim.Native.Nat.{ℕ, ◌+◌, ◌*◌, ◌≤◌, ◌<◌}
use mathlib.Core.Path.{◌≡◌, refl, sym, ap, subst, ◌∙◌}
use mathlib.Core.Bool.{true}
use mathlib.Core.Logic.{by_cases}
use mathlib.Core.List.{List}
use native.Mathlib.Decide.{ℕ_discrete}
use native.Mathlib.Nat.{mul-le-mul_left}
use native.Mathlib.Omega.{arith}
use lib.ListN.{length}
use Rattle.answer.specs.Rules.{accepted}
use Rattle.answer.proofs.Order.{then-accepted}
use Rattle.table.specs.Table.{good_table, table_verdict}
use Rattle.table.proofs.Pairs.{allowed-small}
use Rattle.segment.specs.declared.header.Header.{Header}
use Rattle.segment.specs.declared.record.Record.{Record}
use Rattle.segment.specs.declared.shape.Shape.{Shape}
use Rattle.segment.specs.Format.{v3, header_of, record_count, records_offset, record_at, record_no, extents_at, extents_in}
use Rattle.segment.specs.Shapes.{Shaped}
use Rattle.segment.proofs.Shapes.{v3-shaped}
use Rattle.segment.specs.Check.{sum_lengths, segment_verdict, checked}
use Rattle.segment.specs.Meets.{DigestMeets, ExtentsMeet, TotalMeets, RecordMeets, Meets}
use Rattle.key.specs.declared.Kind.TheVariants.{Records}
use Rattle.key.specs.Items.{Item, Items, Stands, item_span, record_span}
use Rattle.check_book.specs.Readable.{Laid, Inside, RecordReadable, Readable}
use Rattle.check_book.proofs.TablesHeader.{table-book}
use Rattle.check_book.proofs.Book.{segment-book}

-- ---- one record

pub laid-inside : {sh : Shape} {s : List ℕ} {h : Header} → Laid sh s h → Inside s h
laid-inside l = record { digests = omega (arith, l.layout); extents = omega (arith, l.layout); limit = l.most }

pub record-inside : {sh : Shape} {s : List ℕ} {h : Header} → Laid sh s h → (k : ℕ) → k < record_count h → record_at sh h k + sh.record_size ≤ length s
record-inside {sh} l k i = omega (arith, mul-le-mul_left sh.record_size i, l.layout.digests, l.layout.extents, l.layout.file)

module _ (s : List ℕ) (h : Header) (r : Record) where
  pub digest-inside : (pairs : List ℕ) → Inside s h → DigestMeets pairs h r → r.digest_offset.0 + r.digest_length ≤ length s
  digest-inside pairs l d = omega (arith, d.ends, l.digests)

  pub extents-inside : Inside s h → ExtentsMeet h r → r.extents_offset.0 + 16 * r.extent_count ≤ length s
  extents-inside l e =
      by_cases (ℕ_discrete r.flags 1)
      (λ (f : r.flags ≡ 1). let z = e.gone f in omega (arith, z.offset, z.count))
      (λ (f : ¬ (r.flags ≡ 1)). let z = e.live f in omega (arith, z.ends, l.extents))

module _ (sh : Shape) (s : List ℕ) (h : Header) (r : Record) where
  total-adds : ExtentsMeet h r → TotalMeets sh s r → (r.total_length ≡ sum_lengths (extents_in s r)) × (r.total_length ≤ sh.total_limit)
  unfolding sum_lengths extents_at
  total-adds e t =
      by_cases (ℕ_discrete r.flags 1)
      (λ (f : r.flags ≡ 1).
      (t.gone f ∙ sym (ap (λ (n : ℕ). sum_lengths (extents_at s r.extents_offset.0 n)) (e.gone f).count), omega (arith, t.gone f)))
      (λ (f : ¬ (r.flags ≡ 1)). (sym (t.live f).sum, (t.live f).total))

  record-readable : (pairs : List ℕ) → good_table pairs ≡ true → Laid sh s h → RecordMeets sh pairs s h r → RecordReadable sh s h r
  record-readable pairs g l m =
      let small = allowed-small pairs r.hash_id r.digest_length g m.digest.allowed in
      let adds = total-adds m.extents m.total in
      record {
        marks = m.marks;
        hash = small.0;
        short = small.1;
        digest = digest-inside s h r pairs (laid-inside l) m.digest;
        extents = extents-inside s h r (laid-inside l) m.extents;
        none = λ f. (m.extents.gone f).count;
        total = adds.0;
        limit = adds.1;
      }

-- ---- the records as items whose keys are compared: the list of entries is not read

module _ (sh : Shape) (s list : List ℕ) (h : Header) (l : Laid sh s h) where
  item : (k : ℕ) → k < record_count h → (record_no sh s h k).digest_offset.0 + (record_no sh s h k).digest_length ≤ length s
      → Item (Records h.records_offset sh) s list k
  unfolding Stands item_span record_span record_no
  item k i d = record { stands = record { shaped = l.shaped; inside = record-inside l k i }; digest = d }

  -- of records that meet the rules, when not all of the segment's are tried yet
  pub met-items : (pairs : List ℕ) → ((k : ℕ) → k < record_count h → RecordMeets sh pairs s h (record_no sh s h k))
      → Items (Records h.records_offset sh) s list (record_count h)
  met-items pairs m = record { each = λ k i. item k i (digest-inside s h (record_no sh s h k) pairs (laid-inside l) (m k i).digest) }

pub items : (sh : Shape) (s list : List ℕ) (h : Header) → Readable sh s h → Items (Records h.records_offset sh) s list (record_count h)
items sh s list h v = record { each = λ k i. item sh s list h v.laid k i (v.each k i).digest }

-- ---- the whole

pub readable : (sh : Shape) → Shaped sh → (pairs s : List ℕ) → good_table pairs ≡ true → Meets sh pairs s → Readable sh s (header_of s)
readable sh w pairs s g m =
    let laid : Laid sh s (header_of s) = record { shaped = w; layout = m.layout; most = m.size.most } in
    record {
      header = refl;
      long = m.size.least;
      laid = laid;
      each = λ k l. record-readable sh s (header_of s) (record_no sh s (header_of s) k) pairs g laid (m.each k l);
    }

-- under the header as it was read
pub read : (sh : Shape) (s : List ℕ) (h : Header) → h ≡ header_of s → Readable sh s (header_of s) → Readable sh s h
read sh s h e v = subst (Readable sh s) (sym e) v

pub under-readable : (sh : Shape) → Shaped sh → (pairs s : List ℕ) → good_table pairs ≡ true → segment_verdict sh pairs s ≡ accepted → Readable sh s (header_of s)
under-readable sh w pairs s g a = readable sh w pairs s g ((segment-book sh w pairs s).0 a)

pub checked-readable : (pairs s : List ℕ) → checked pairs s ≡ accepted → Readable v3 s (header_of s)
unfolding checked
checked-readable pairs s a =
    let parts = (then-accepted (table_verdict pairs) (segment_verdict v3 pairs s)).0 a in
    under-readable v3 v3-shaped pairs s ((table-book pairs).0 parts.0) parts.1
