-- `key::entry_span` meets its contract: the entry's two numbers.
use mathlib.Core.Path.{refl}
use Rattle.key.specs.Items.{entry_span}
use Rattle.key.proofs.entry_span.Goals as goal

pub returns : goal.returns
unfolding entry_span
returns c = refl
