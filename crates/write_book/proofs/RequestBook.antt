-- The tables of what write is lent and the rule book: each table accepts exactly when its rules are kept, and so does the whole request. And what an
-- accepted request says of the keys' items, for those who read on.
-- Assumes nothing.
use Prim.Native.Nat.{ℕ, ◌<◌}
use mathlib.Core.Path.{◌≡◌, refl}
use mathlib.Core.Bool.{true}
use mathlib.Core.Logic.Iff
use mathlib.Core.Logic.{◌↔◌, by_cases}
use mathlib.Core.List.{List}
use native.Mathlib.Decide.{ℕ_discrete}
use native.Mathlib.Omega.{arith}
use borrow.Author.Tests.{eq-eqb, ne_eqb}
use Rattle.answer.specs.Rules.{first_over, accepted}
use Rattle.lists.proofs.Tests.{or-iff}
use Rattle.answer.proofs.Order.{then-accepted, rows, first-accepted}
use Rattle.segment.specs.declared.entry.Entry.{Entry}
use Rattle.segment.specs.declared.extent.Extent.{Extent}
use Rattle.segment.specs.declared.shape.Shape.{Shape}
use Rattle.table.specs.Table.{allows}
use Rattle.segment.specs.Keys.{fresh_key}
use Rattle.segment.specs.Write.{
  entry_place,
  entry_count,
  entry_no,
  entry_marks,
  entry_lists,
  entry_digest,
  entry_places,
  entry_total,
  entry_rules,
  entry_verdict,
  entry_digest_bytes,
  entry_key,
  request_rules,
}
use Rattle.key.specs.declared.Kind.TheVariants.{Entries}
use Rattle.key.specs.Items.{Item, Items, Stands, item_key, item_hash, item_digest, item_span, item_place, entry_span}
use Rattle.key.proofs.Duplicates.{keys-book}
use Rattle.segment.specs.Asked.{MarksAsked, ListsAsked, PlacesAsked, TotalAsked, Asked, RequestAsked}

-- ---- 7

pub marks-book : (e : Entry) (k : ℕ) → entry_marks e k ≡ accepted ↔ MarksAsked e
unfolding entry_marks
marks-book e k =
    simp (or-iff, rows) (
      λ a. record {
        visibility = a.0;
        imported = a.1.0;
        gone = a.1.1.0;
        source = a.1.1.1.0;
        own = λ z. a.1.1.1.1 (λ i. omega arith);
      },
      λ m. (m.visibility, (m.imported, (m.gone, (m.source, λ n. m.own (omega arith))))),
    )

-- ---- 15

pub lists-book : (digests extents : List ℕ) (e : Entry) (k : ℕ) → entry_lists digests extents e k ≡ accepted ↔ ListsAsked digests extents e
unfolding entry_lists
lists-book digests extents e k = simp rows (omega arith)

-- ---- 8

pub digest-book : (pairs : List ℕ) (e : Entry) (k : ℕ) → entry_digest pairs e k ≡ accepted ↔ allows pairs e.hash_id e.digest_length ≡ true
unfolding entry_digest
digest-book pairs e k = simp rows Iff.rfl

-- ---- 9

pub places-book : (e : Entry) (k : ℕ) → entry_places e k ≡ accepted ↔ PlacesAsked e
unfolding entry_places
places-book e k =
    by_cases (ℕ_discrete e.gone 1)
    (λ (g : e.gone ≡ 1).
    rw (eq-eqb e.gone 1 g) (
    simp rows (
      λ a. record { gone_first = λ _. a.0; gone_count = λ _. a.1; live = λ n. absurd (n g); count = omega arith },
      λ m. (m.gone_first g, m.gone_count g),
    )
    ))
    (λ (g : ¬ (e.gone ≡ 1)).
    rw (ne_eqb e.gone 1 g) (
    simp rows (
      λ a. record { gone_first = λ y. absurd (g y); gone_count = λ y. absurd (g y); live = λ _. a.0; count = a.1 },
      λ m. (m.live g, m.count),
    )
    ))

-- ---- 10

pub total-book : (sh : Shape) (es : List Extent) (k : ℕ) → entry_total sh es k ≡ accepted ↔ TotalAsked sh es
unfolding entry_total
total-book sh es k = simp rows (λ a. record { fits = a.0; sum = a.1 }, λ m. (m.fits, m.sum))

-- ---- one entry, and each of them

module _ (sh : Shape) (pairs : List ℕ) where
  pub entry-book : (digests extents : List ℕ) (e : Entry) (k : ℕ) → entry_rules sh pairs digests extents e k ≡ accepted ↔ Asked sh pairs digests extents e
  unfolding entry_rules
  entry-book digests extents e k =
      simp (then-accepted, marks-book, lists-book, digest-book, places-book, total-book) (
        λ a. record { marks = a.0; lists = a.1.0; allowed = a.1.1.0; places = a.1.1.1.0; total = a.1.1.1.1 },
        λ m. (m.marks, (m.lists, (m.allowed, (m.places, m.total)))),
      )

  module _ (entries digests extents : List ℕ) where
    pub entries-book : (n : ℕ)
        → first_over n (entry_verdict sh pairs entries digests extents) ≡ accepted ↔ ((k : ℕ) → k < n → Asked sh pairs digests extents (entry_no entries k))
    unfolding entry_verdict
    entries-book n = simp (first-accepted, entry-book) Iff.rfl

    -- ---- the whole request

    pub request-book : (bloom : ℕ) → request_rules sh pairs bloom entries digests extents ≡ accepted ↔ RequestAsked sh pairs bloom entries digests extents
    unfolding request_rules
    request-book bloom =
        simp (rows, entries-book, keys-book) (
          λ a. record { few = a.0; whole = a.1.0; each = a.1.1.0; fresh = a.1.1.1 },
          λ m. (m.few, (m.whole, (m.each, m.fresh))),
        )

-- ---- the items whose keys are compared

-- the keys of the entries, as items and as entries
pub same_keys : (entries digests : List ℕ) (n : ℕ)
    → first_over n (fresh_key (item_key Entries digests entries) (item_place Entries)) ≡ first_over n (fresh_key (entry_key entries digests) entry_place)
unfolding item_key item_place item_hash item_digest item_span entry_span entry_key entry_digest_bytes entry_no
same_keys entries digests n = refl

module _ (sh : Shape) (pairs entries digests extents : List ℕ) where
  entry-stands : (k : ℕ) → k < entry_count entries → Asked sh pairs digests extents (entry_no entries k) → Item Entries digests entries k
  unfolding Stands item_span entry_span entry_no
  entry-stands k l a = record { stands = omega arith; digest = a.lists.digest }

  -- each whole entry and its digest can be read
  pub entries-stand : ((k : ℕ) → k < entry_count entries → Asked sh pairs digests extents (entry_no entries k))
      → Items Entries digests entries (entry_count entries)
  entries-stand each = record { each = λ k l. entry-stands k l (each k l) }

  -- so it is where a request is accepted
  module _ (bloom : ℕ) (a : request_rules sh pairs bloom entries digests extents ≡ accepted) where
    pub request-items : Items Entries digests entries (entry_count entries)
    request-items = entries-stand ((request-book sh pairs entries digests extents bloom).0 a).each
