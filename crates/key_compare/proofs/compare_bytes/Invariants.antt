-- `key_compare::compare_bytes` meets its contract: the bytes passed are equal, and what is left decides.
use mathlib.Core.Path.{◌≡◌}
use lib.ListN.{drop}
use Rattle.key.specs.Heads.{lex}
use Rattle.key_compare.proofs.compare_bytes.Given as goal

abbrev pub invariant-loop-i : goal.invariant-loop-i
invariant-loop-i l = lex l.a l.b ≡ lex (drop l.i l.a) (drop l.i l.b)
