-- `key::Items::head` meets its contract: each number from its own column.
use Rattle.key.specs.Items.{item_head}
use Rattle.key.proofs.Items.head.Goals as goal

pub returns : goal.returns
unfolding item_head
returns c = λ j. record { hash_id = c.hash.ensures j }
