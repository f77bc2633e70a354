-- `crc64_table::tables` meets its contract: the rule is one test over all 2,048 numbers, which the checker computes.
use mathlib.Core.Path.{refl}
use Rattle.lists.specs.Lists.{eq_list, count_from}
use Rattle.crc64.specs.Crc.{step, steps}
use Rattle.crc64_table.proofs.TableTest.{shifted, ruled, right}
use Rattle.crc64_table.proofs.TableRule.{holds}
use Rattle.crc64_table.proofs.tables.Goals as goal

pub returns : goal.returns
unfolding step steps eq_list count_from shifted ruled right
returns c = holds _ refl
