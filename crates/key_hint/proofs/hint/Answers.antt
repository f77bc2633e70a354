-- `key_hint::hint` meets its contract: the hint of the item's own key.
use Rattle.key_hint.proofs.Leads.{item-hint}
use Rattle.key_hint.proofs.hint.Goals as goal

pub returns : goal.returns
returns c = search item-hint
