-- `key::head::number_of` meets its contract: the head's number, then the digest's bytes.
use mathlib.Core.Path.{◌∙◌}
use native.Mathlib.Omega.{arith}
use Rattle.key.proofs.HeadNumbers.{number-first, number-byte, number-ended}
use Rattle.key.proofs.head.number_of.Goals as goal

pub returns-then-i-lt1 : goal.returns-then-i-lt1
returns-then-i-lt1 c = search number-first

pub returns-then-at-digest : goal.returns-then-at-digest
returns-then-at-digest c = c.from.ensures ∙ number-byte c.args.head c.args.digest.now c.args.i (omega arith)

pub returns : goal.returns
returns c = search number-ended
