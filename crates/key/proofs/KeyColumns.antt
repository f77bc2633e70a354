-- What each kind of source says of an item: where it stands, its hash id, and where its digest lies.
-- Assumes nothing.
use Prim.Native.Nat.{ℕ, ◌+◌, ◌-◌, ◌*◌, ◌≤◌, ◌<◌}
use mathlib.Core.Path.{◌≡◌, subst}
use mathlib.Core.List.{List}
use native.Mathlib.Omega.{arith}
use lib.ListN.{length, take, drop}
use Rattle.numbers.specs.Numbers.{num_at}
use Rattle.offset.specs.declared.FileOffset.{FileOffset}
use Rattle.segment.specs.declared.shape.Shape.{Shape}
use Rattle.segment.specs.Format.{entry_size, record_from, record_of}
use Rattle.segment.specs.declared.entry.Entry.{Entry}
use Rattle.segment.proofs.Shapes.{shaped-least}
use Rattle.segment.specs.Write.{entry_no, entry_place}
use Rattle.key.specs.declared.Kind.{Kind}
use Rattle.key.specs.declared.Kind.TheVariants.{Records, Entries}
use Rattle.key.specs.declared.Span.{Span}
use Rattle.key.specs.Items.{record_span, entry_span, item_hash, item_span, item_digest, item_place, RecordStands, Stands, Item}

module _ (kind : Kind) (bytes list : List ℕ) (k : ℕ) where
  pub record-stands : (first : FileOffset) (sh : Shape) → kind ≡ Records first sh → Item kind bytes list k → RecordStands first sh bytes k
  unfolding Stands
  record-stands first sh e i = subst (λ (q : Kind). Stands q bytes list k) e i.stands

  -- the fields that every version has lie in it
  pub record-fields : (first : FileOffset) (sh : Shape) (at : ℕ) → kind ≡ Records first sh → Item kind bytes list k → at ≤ record_from sh first.0 k → at + 48 ≤ length bytes
  record-fields first sh at e i q =
      let s = record-stands first sh e i in
      omega (arith, s.inside, shaped-least sh s.shaped)

  pub entry-stands : kind ≡ Entries → Item kind bytes list k → entry_size * k + entry_size ≤ length list
  unfolding Stands
  entry-stands e i = subst (λ (q : Kind). Stands q bytes list k) e i.stands

  pub record-hash : (first : FileOffset) (sh : Shape) {r at : ℕ} → kind ≡ Records first sh → at ≡ record_from sh first.0 k → r ≡ num_at 4 bytes at → r ≡ item_hash kind bytes list k
  unfolding item_hash record_of
  record-hash first sh e q h = rw (e, ← q) h

  pub entry-hash : {r : Entry} → kind ≡ Entries → r ≡ entry_no list k → r.hash_id ≡ item_hash kind bytes list k
  unfolding item_hash
  entry-hash e h = rw (e, h)

  pub record-digest : (first : FileOffset) (sh : Shape) {r : Span} {at : ℕ} → kind ≡ Records first sh → at ≡ record_from sh first.0 k → r ≡ record_span sh bytes at
      → r ≡ item_span kind bytes list k
  unfolding item_span
  record-digest first sh e q h = rw (e, ← q) h

  pub entry-digest : {r : Span} {x : Entry} → kind ≡ Entries → x ≡ entry_no list k → r ≡ entry_span x → r ≡ item_span kind bytes list k
  unfolding item_span
  entry-digest e q h = rw (e, ← q) h

  -- a span that is the item's lies in the bytes, and holds its digest
  module _ (r : Span) (e : r ≡ item_span kind bytes list k) where
    pub inside : Item kind bytes list k → r.start + r.size ≤ length bytes
    inside i = rw e i.digest

    pub held : take (r.start + r.size - r.start) (drop r.start bytes) ≡ item_digest kind bytes list k
    unfolding item_digest
    held =
        let n : r.start + r.size - r.start ≡ r.size = omega arith in
        rw (n, e)

-- ---- where it is refused

pub record-place : (kind : Kind) (k : ℕ) (first : FileOffset) (sh : Shape) {r : ℕ} → kind ≡ Records first sh → r ≡ record_from sh first.0 k → r ≡ item_place kind k
unfolding item_place
record-place kind k first sh e h = rw e h

pub record-begins : (kind : Kind) (k : ℕ) (first : FileOffset) (sh : Shape) {bound : ℕ} → kind ≡ Records first sh → item_place kind k < bound → record_from sh first.0 k < bound
unfolding item_place
record-begins kind k first sh e l = rw e at l

pub entry-place : (kind : Kind) (k : ℕ) {r : ℕ} → kind ≡ Entries → r ≡ entry_place k → r ≡ item_place kind k
unfolding item_place
entry-place kind k e h = rw e h

-- an item that stands there has a place that fits
pub place-fits : (kind : Kind) (bytes list : List ℕ) (k : ℕ) {bound : ℕ} → Item kind bytes list k → length bytes < bound → k < bound → item_place kind k < bound
unfolding item_place Stands
place-fits (Records first sh) bytes list k i l m = omega (arith, i.stands.inside)
place-fits Entries bytes list k i l m = m
