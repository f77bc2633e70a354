-- `key_duplicate::check_keys` meets its contract: the scan tells, after those that are known to be new.
use borrow.Author.Rules.{rules}
use Rattle.key_duplicate.proofs.Known.{known-none, known-by-order}
use Rattle.key_duplicate.proofs.check_keys.Goals as goal

pub scan_keys-requires : goal.scan_keys-requires
scan_keys-requires c = record { items = search rules; known = known-none _ _ }

pub scan_keys-requires-2 : goal.scan_keys-requires-2
scan_keys-requires-2 c = record { items = c.requires.items; known = known-by-order _ _ _ _ _ c.known_fresh-known.ensures }
