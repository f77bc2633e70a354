-- `list_input::put_refused` meets its contract: the line at the first place, nothing at another.
use Rattle.std.proofs.Common.{rules}
use native.Mathlib.Omega.{arith}
use Rattle.list_input.proofs.PartLaws.{only-first, only-later}
use Rattle.list_input.proofs.put_refused.Goals as goal
use Rattle.list_input.proofs.put_refused.Goals.{then-is_first, else-is_first}

pub returns : goal.returns
returns c =
    elim c.if-is_first.branch [
      | then-is_first w ↦ only-first _ _ _ c.is_first.ensures w.if-is_first.true w.put_refusal.ensures (omega arith) w.text-is _ (search rules)
      | else-is_first w ↦ only-later _ _ _ c.is_first.ensures w.if-is_first.false w.text-is (omega arith) _ (search rules)
    ]
