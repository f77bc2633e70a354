-- `key_hint::Keys::comes_first` meets its contract: hints that differ decide, and where they do not, the keys do.
use Rattle.key_hint.proofs.Leads.{lower-hint, higher-hint}
use Rattle.key_hint.proofs.Keys.comes_first.Goals as goal

pub returns-then-x-y : goal.returns-then-x-y
returns-then-x-y c = search lower-hint

pub returns-then-y-x : goal.returns-then-y-x
returns-then-y-x c = search higher-hint
