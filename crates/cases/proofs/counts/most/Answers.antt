-- `cases::counts::most` lends lists with room for 65,536 entries.
use Prim.Native.Nat.{ℕ}
use mathlib.Core.Path.{sym, ◌∙◌}
use lib.ListN.{length-replicate}
use Rattle.cases.proofs.counts.most.Goals as goal

pub slice_bounds-fill-end : goal.slice_bounds-fill-end
slice_bounds-fill-end c = sym (length-replicate {A = ℕ} 589824 0)

pub fill-requires : goal.fill-requires
fill-requires c = record { entries_len = length-replicate {A = ℕ} 589824 0; digests_len = length-replicate {A = ℕ} 131072 0 }

pub slice_bounds-ask-end-2 : goal.slice_bounds-ask-end-2
slice_bounds-ask-end-2 c = sym (c.fill.auto.entries ∙ length-replicate {A = ℕ} 589824 0)

pub slice_bounds-ask-end-3 : goal.slice_bounds-ask-end-3
slice_bounds-ask-end-3 c = sym (c.fill.auto.digests ∙ length-replicate {A = ℕ} 131072 0)
