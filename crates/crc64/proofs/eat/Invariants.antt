-- `crc64::eat` meets its contract: after k turns the register has made k steps.
use Rattle.std.proofs.Common.{◌≡◌}
use Rattle.std.specs.Int.Bits.{bit_xor}
use Rattle.crc64.specs.Crc.{steps}
use Rattle.crc64.proofs.eat.Given as goal

abbrev pub invariant-loop : goal.invariant-loop
invariant-loop l = l.x ≡ steps l.counter (bit_xor l.register l.b)
