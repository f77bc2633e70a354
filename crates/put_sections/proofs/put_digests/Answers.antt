-- `put_sections::put_digests` meets its contract: the digests of the items so far are put.
use native.Mathlib.Omega.{arith}
use Rattle.lists.proofs.Each.{each_at}
use Rattle.put_sections.proofs.Turns.{digesting-room, digesting-more, digesting-done}
use Rattle.put_sections.proofs.put_digests.Goals as goal

pub digest-digest-requires : goal.digest-digest-requires
digest-digest-requires c = rw c.from.ensures (each_at _ c.args.numbers.now c.loop-i.i-index c.requires.each (omega arith))

pub copy_bytes-requires : goal.copy_bytes-requires
copy_bytes-requires c = digesting-room _ _ _ _ _ _ _ _ c.loop-i.invariant (omega arith) _ (rw c.from.ensures at c.digest-digest.ensures) c.requires.out_len

pub loop-i-preserved : goal.loop-i-preserved
loop-i-preserved c =
    digesting-more _ _ _ _ _ _ _ _ c.loop-i.invariant (omega arith) _ (rw c.from.ensures at c.digest-digest.ensures) _ c.copy_bytes.ensures c.requires.out_len

pub returns : goal.returns
returns c = digesting-done _ _ _ _ _ _ _ _ c.loop-i.invariant (omega arith) c.requires.out_len
