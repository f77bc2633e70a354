-- `check_header::check_checksum` meets its contract: the checksum of every byte before the footer.
use mathlib.Core.Path.{sym}
use native.Mathlib.Nat.{add-zero}
use native.Mathlib.Omega.{arith}
use lib.Seq.{length-take-le}
use Rattle.check_header.proofs.HeaderRows.{checksum-differs, checksum-right}
use Rattle.check_header.proofs.check_checksum.Goals as goal

pub slice_bounds-checksum_by-end : goal.slice_bounds-checksum_by-end
slice_bounds-checksum_by-end c = sym (length-take-le _ _ (omega arith))

pub returns-then-checksum_by-stored : goal.returns-then-checksum_by-stored
returns-then-checksum_by-stored c = let stored = rw add-zero at c.read-stored.ensures in search checksum-differs

pub returns : goal.returns
returns c = let stored = rw add-zero at c.read-stored.ensures in search checksum-right
