-- `put_tidy::arrange` meets its contract: sorted, written.
use native.Mathlib.Omega.{arith}
use Rattle.key_sort.proofs.Numbered.{sorted-long}
use Rattle.put_tidy.proofs.SortedItems.{lines-read, sorted-lines, sorted-wrote}
use Rattle.put_tidy.proofs.arrange.Goals as goal

pub sorted-requires : goal.sorted-requires
sorted-requires c = record { items = lines-read _ _ _ c.args.source.extents.now _ c.requires.all_lines; hints_len = c.requires.hints_len; numbers_in_bounds = c.requires.numbers_in_bounds; numbers_len_bound = c.requires.numbers_len_bound }

pub emit-requires : goal.emit-requires
emit-requires c = record { lines = sorted-lines _ _ _ _ _ _ _ c.sorted.ensures c.requires.all_lines; shaped = c.requires.shaped; numbers_len_bound = omega (arith, sorted-long _ _ _ _ _ _ c.sorted.ensures, c.requires.numbers_len_bound) }

pub returns : goal.returns
returns c = let a = c.args in
    sorted-wrote _ _ _ _ _ _ _ c.sorted.ensures a.frame.shape a.frame.heading a.frame.bloom.now _ _ _ c.emit.ensures
