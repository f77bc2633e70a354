-- `key_sort::sorted` meets its contract: hints put, numbers counted up, and sorted where the keys do not climb already.
use mathlib.Core.Path.{sym, ◌∙◌}
use Rattle.key_sort.proofs.Numbered.{to-hint, counted-hinted, counted-room, counted-items, climb-sorted, numbers-sorted}
use Rattle.key_sort.proofs.sorted.Goals as goal

pub put_hints-requires : goal.put_hints-requires
put_hints-requires c = to-hint _ _ _ _ _ c.requires.hints_len c.requires.items

pub keys_climb-requires : goal.keys_climb-requires
keys_climb-requires c = counted-items _ _ _ _ _ c.requires.hints_len _ c.put_hints.ensures _ c.count_up.ensures c.requires.items

pub returns-then-keys_climb : goal.returns-then-keys_climb
returns-then-keys_climb c = climb-sorted _ _ _ _ _ c.requires.hints_len _ c.put_hints.ensures _ c.count_up.ensures (sym c.keys_climb.ensures ∙ c.if-keys_climb.true)

pub sort-requires : goal.sort-requires
sort-requires c = record { all_hinted = counted-hinted _ _ _ _ _ c.requires.hints_len _ c.put_hints.ensures _ c.count_up.ensures c.requires.items; numbers_in_bounds = counted-room _ _ _ _ _ c.requires.hints_len _ c.put_hints.ensures _ c.count_up.ensures _ c.requires.numbers_in_bounds }

pub returns : goal.returns
returns c = numbers-sorted _ _ _ _ _ c.requires.hints_len _ c.put_hints.ensures _ c.count_up.ensures _ c.sort.ensures
