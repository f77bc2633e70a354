-- `cases::places::seal` keeps to a file that has a footer.
use mathlib.Core.Path.{sym}
use native.Mathlib.Omega.{arith}
use lib.Seq.{length-take-le}
use Rattle.cases.proofs.places.seal.Goals as goal

pub slice_bounds-checksum-end-then-file-ge24 : goal.slice_bounds-checksum-end-then-file-ge24
slice_bounds-checksum-end-then-file-ge24 c = sym (length-take-le _ _ (omega arith))
