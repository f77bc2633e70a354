-- The numbers of items that may be compared.
--   AllHinted    each is the number of an item that can be read and has its hint
-- Assumes nothing: these are definitions.
use Rattle.std.specs.Prelude.{ℕ, List}
use Rattle.lists.specs.Lists.{Each}
use Rattle.key_hint.specs.declared.Keys.{Keys}
use Rattle.key_hint.specs.Lent.{HasHint}

abbrev pub AllHinted : Keys → List ℕ → Type 0
AllHinted keys numbers = Each (HasHint keys) numbers
