-- `key_merge::left_next` meets its contract: a list that has ended gives nothing, and where both go on the keys decide.
use native.Mathlib.Omega.{arith}
use Rattle.key.specs.Lent.{leq_in}
use Rattle.lists.proofs.Each.{each_at}
use Rattle.key_merge.proofs.Merging.{left_ended, right-ended, test-decides}
use Rattle.key_merge.proofs.left_next.Goals as goal

pub returns-then-a-i : goal.returns-then-a-i
returns-then-a-i c = search left_ended

pub returns-then-b-j : goal.returns-then-b-j
returns-then-b-j c = search right-ended

pub comes_first-requires : goal.comes_first-requires
comes_first-requires c =
    record {
      hinted = rw c.from.ensures (each_at _ _ c.args.i c.requires.all_hinted (omega arith));
      hinted_2 = rw c.from-2.ensures (each_at _ _ c.args.j c.requires.all_hinted_2 (omega arith));
    }

pub returns : goal.returns
returns c = let a = c.args in test-decides (leq_in a.keys.items) a.a.now a.b.now a.i a.j (omega arith) (omega arith) (cc)
