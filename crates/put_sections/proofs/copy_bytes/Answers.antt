-- `put_sections::copy_bytes` meets its contract: i bytes are copied.
use native.Mathlib.Omega.{arith}
use Rattle.numbers.proofs.Copies.{copying-start, copying-more, copying-done}
use Rattle.put_sections.proofs.copy_bytes.Goals as goal

pub loop-i-init : goal.loop-i-init
loop-i-init c = copying-start _ _ _

pub loop-i-preserved : goal.loop-i-preserved
loop-i-preserved c = copying-more _ _ _ _ _ c.loop-i.invariant (omega arith) c.requires

pub returns : goal.returns
returns c = copying-done _ _ _ _ _ c.loop-i.invariant (omega arith)
