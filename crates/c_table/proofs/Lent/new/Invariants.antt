-- `c_table::Lent::new` meets its contract: after i turns i numbers stand in front of zeros.
use Rattle.table.proofs.Pairs.{Filling}
use Rattle.c_table.specs.Lent.{taken}
use Rattle.c_table.proofs.Lent.new.Given as goal

abbrev pub invariant-loop-i : goal.invariant-loop-i
invariant-loop-i l = Filling (taken l.bytes) l.table l.i
