-- `key_join::copy_front` meets its contract: i numbers are copied.
use borrow.Author.Rules.{rules}
use Rattle.key_join.proofs.Copying.{copying}
use Rattle.key_join.proofs.copy_front.Goals as goal

pub loop-i-preserved : goal.loop-i-preserved
loop-i-preserved c = search (copying, rules)

pub returns : goal.returns
returns c = search (copying, rules)
