-- The same of items as they are lent, in one value with what they are read from.
--   Readable, AllReadable  one item, and each of n items, can be read
--   hash_in, head_in, span_in, digest_in, key_in   the columns of an item, and its key
--   leq_in                whether an item's key comes no later than another's
-- Assumes nothing: these are definitions.
use Rattle.std.specs.Prelude.{ℕ, Bool, List}
use Rattle.key.specs.declared.Items.{Items as Lent}
use Rattle.key.specs.declared.Span.{Span}
use Rattle.key.specs.declared.head.Head.{Head}
use Rattle.key.specs.Items.{Item, Items, item_hash, item_head, item_span, item_digest, item_key}
use Rattle.key.specs.ItemOrder.{item_leq}

abbrev pub Readable : Lent → ℕ → Type 0
Readable items k = Item items.kind items.bytes.now items.list.now k

abbrev pub AllReadable : Lent → ℕ → Type 0
AllReadable items n = Items items.kind items.bytes.now items.list.now n

abbrev pub hash_in : Lent → ℕ → ℕ
hash_in items k = item_hash items.kind items.bytes.now items.list.now k

abbrev pub head_in : Lent → ℕ → Head
head_in items k = item_head items.kind items.bytes.now items.list.now k

abbrev pub span_in : Lent → ℕ → Span
span_in items k = item_span items.kind items.bytes.now items.list.now k

abbrev pub digest_in : Lent → ℕ → List ℕ
digest_in items k = item_digest items.kind items.bytes.now items.list.now k

abbrev pub key_in : Lent → ℕ → List ℕ
key_in items = item_key items.kind items.bytes.now items.list.now

abbrev pub leq_in : Lent → ℕ → ℕ → Bool
leq_in items = item_leq items.kind items.bytes.now items.list.now
