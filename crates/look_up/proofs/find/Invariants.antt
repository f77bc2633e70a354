-- `look_up::find` meets its contract: no record below k has the key.
use Rattle.segment.specs.Keys.{key_from}
use Rattle.look_up.proofs.Finding.{Searching}
use Rattle.look_up.proofs.find.Given as goal

abbrev pub invariant-loop-k : goal.invariant-loop-k
invariant-loop-k l = Searching l.sh l.seg (key_from l.hash l.digest) l.k
