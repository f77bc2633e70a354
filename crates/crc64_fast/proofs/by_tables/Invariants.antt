-- `crc64_fast::by_tables` meets its contract: the whole run is the run from here over what is left, which ends in the tail.
use Rattle.std.proofs.Common.{◌≡◌, ◌-◌, ◌%◌, length, drop}
use Rattle.std.specs.Int.Bits.{bit_xor}
use Rattle.std.specs.Slice.Iter.{chunks_exact_rest, chunks_exact_size}
use Rattle.crc64.specs.Crc.{run}
use Rattle.crc64_fast.proofs.by_tables.Given as goal

abbrev pub invariant-loop-bytes : goal.invariant-loop-bytes
invariant-loop-bytes l =
    let rest = chunks_exact_rest l.bytes-iterator in
    record { eight : chunks_exact_size l.bytes-iterator ≡ 8; same : run l.register l.s ≡ run (bit_xor l.c.low l.c.high) rest; tail : drop (length rest - length rest % 8) rest ≡ l.tail }
