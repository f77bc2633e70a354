-- The tables' rule as one test over all their numbers; TableRule has the law that carries it to each.
--   tested    how many numbers are tested: all
--   shifted   a number after eight steps, by the first table: its low byte's number, and what is left of it above that byte
--   ruled     the tables as the rule gives them: the bytes after eight steps, and then each number but those of the last
--             table after eight steps, which stands 256 places on
--   right     the test: the tables are what the rule gives
-- Assumes nothing.
use mathlib.Core.Bool.{Bool}
use mathlib.Core.List.{List, ◌++◌, map}
use Prim.Native.Nat.{ℕ, ◌-◌, ◌/◌, ◌%◌}
use lib.Bits.{bit_xor}
use lib.ListN.{get_or, take}
use Rattle.lists.specs.Lists.{eq_list, count_from}
use Rattle.crc64.specs.Crc.{steps}

abbrev pub tested : ℕ
tested = 2048

unfoldable pub shifted : List ℕ → ℕ → ℕ
shifted t x = bit_xor (get_or t (x % 256) 0) (x / 256)

abbrev pub bytes : List ℕ
bytes = map (steps 8) (count_from 0 256)

abbrev pub later : List ℕ → List ℕ
later t = map (shifted t) (take (tested - 256) t)

unfoldable pub ruled : List ℕ → List ℕ
ruled t = bytes ++ later t

unfoldable pub right : List ℕ → Bool
right t = eq_list (take tested t) (ruled t)
