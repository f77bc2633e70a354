-- `crc64_fast::eat_word` meets its contract: the register's halves, each through its four tables.
use borrow.Author.Rules.{rules}
use Rattle.crc64_fast.proofs.Slices.{halves}
use Rattle.crc64_fast.proofs.eat_word.Goals as goal

pub returns : goal.returns
returns c = rw (c.four.ensures, c.four-2.ensures) (halves c.args.x (search rules))
