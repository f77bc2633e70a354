-- `crc64::crc64_plain_on` meets its contract: the whole run is the run from here over what is left.
use Rattle.std.proofs.Common.{◌≡◌, drop}
use Rattle.crc64.specs.Crc.{run}
use Rattle.crc64.proofs.crc64_plain_on.Given as goal

abbrev pub invariant-loop-b : goal.invariant-loop-b
invariant-loop-b l = run l.register l.s ≡ run l.c (drop l.b-index l.s)
