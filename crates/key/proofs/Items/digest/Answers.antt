-- `key::Items::digest` meets its contract: the part that the span names.
use native.Mathlib.Omega.{arith}
use Rattle.key.proofs.KeyColumns.{inside, held}
use Rattle.key.proofs.Items.digest.Goals as goal

pub overflow_add-end : goal.overflow_add-end
overflow_add-end c = let i = inside _ _ _ _ _ c.digest_span-span.ensures c.requires in omega arith

pub slice_bounds-result-end : goal.slice_bounds-result-end
slice_bounds-result-end c = let i = inside _ _ _ _ _ c.digest_span-span.ensures c.requires in omega arith

pub returns : goal.returns
returns c = held _ _ _ _ _ c.digest_span-span.ensures
