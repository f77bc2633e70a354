-- `key_compare::compare_items` meets its contract: each item by its own columns.
use borrow.Author.Rules.{rules}
use Rattle.key_compare.proofs.Compare.{items-told}
use Rattle.key_compare.proofs.compare_items.Goals as goal

pub returns : goal.returns
returns c = search (items-told, rules)
