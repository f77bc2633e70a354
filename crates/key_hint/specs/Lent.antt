-- The hints of items as they are lent.
--   hint_in       an item's hint
--   HintsOf       the hints of n items
--   HasHint       an item that can be read, with its hint at its place
-- Assumes nothing: these are definitions.
use Rattle.std.specs.Prelude.{ℕ, List}
use Rattle.key.specs.declared.Items.{Items as Lent}
use Rattle.key_hint.specs.declared.Keys.{Keys}
use Rattle.key_hint.specs.Leading.{item_hint, Hinted, Hints}

abbrev pub hint_in : Lent → ℕ → ℕ
hint_in items k = item_hint items.kind items.bytes.now items.list.now k

abbrev pub HintsOf : Lent → ℕ → List ℕ → Type 0
HintsOf items n hints = Hints items.kind items.bytes.now items.list.now n hints

abbrev pub HasHint : Keys → ℕ → Type 0
HasHint keys = Hinted keys.items.kind keys.items.bytes.now keys.items.list.now keys.hints.now
