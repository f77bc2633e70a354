-- `cases::counts::too_many` lends a list of 65,537 entries.
use Prim.Native.Nat.{ℕ}
use mathlib.Core.Path.{sym}
use lib.ListN.{length-replicate}
use Rattle.cases.proofs.counts.too_many.Goals as goal

pub slice_bounds-ask-end-2 : goal.slice_bounds-ask-end-2
slice_bounds-ask-end-2 c = sym (length-replicate {A = ℕ} 589833 0)
