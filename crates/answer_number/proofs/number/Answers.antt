-- `answer_number::number` meets its contract: each refusal has its number.
use mathlib.Core.Path.{sym, ap}
use Rattle.answer.specs.Answers.{rule_number}
use Rattle.answer_number.proofs.number.Goals as goal

pub returns-in-Size : goal.returns-in-Size
returns-in-Size c = sym (ap rule_number c.in-Size.is)

pub returns-in-Magic : goal.returns-in-Magic
returns-in-Magic c = sym (ap rule_number c.in-Magic.is)

pub returns-in-Version : goal.returns-in-Version
returns-in-Version c = sym (ap rule_number c.in-Version.is)

pub returns-in-Header : goal.returns-in-Header
returns-in-Header c = sym (ap rule_number c.in-Header.is)

pub returns-in-Checksum : goal.returns-in-Checksum
returns-in-Checksum c = sym (ap rule_number c.in-Checksum.is)

pub returns-in-Record : goal.returns-in-Record
returns-in-Record c = sym (ap rule_number c.in-Record.is)

pub returns-in-Digest : goal.returns-in-Digest
returns-in-Digest c = sym (ap rule_number c.in-Digest.is)

pub returns-in-Extents : goal.returns-in-Extents
returns-in-Extents c = sym (ap rule_number c.in-Extents.is)

pub returns-in-Total : goal.returns-in-Total
returns-in-Total c = sym (ap rule_number c.in-Total.is)

pub returns-in-Visibility : goal.returns-in-Visibility
returns-in-Visibility c = sym (ap rule_number c.in-Visibility.is)

pub returns-in-Duplicate : goal.returns-in-Duplicate
returns-in-Duplicate c = sym (ap rule_number c.in-Duplicate.is)

pub returns-in-Room : goal.returns-in-Room
returns-in-Room c = sym (ap rule_number c.in-Room.is)

pub returns-in-Table : goal.returns-in-Table
returns-in-Table c = sym (ap rule_number c.in-Table.is)

pub returns-in-List : goal.returns-in-List
returns-in-List c = sym (ap rule_number c.in-List.is)

pub returns-in-Large : goal.returns-in-Large
returns-in-Large c = sym (ap rule_number c.in-Large.is)

pub returns-in-Key : goal.returns-in-Key
returns-in-Key c = sym (ap rule_number c.in-Key.is)

pub returns-in-LayoutBloom : goal.returns-in-LayoutBloom
returns-in-LayoutBloom c = sym (ap rule_number c.in-LayoutBloom.is)

pub returns-in-LayoutRecords : goal.returns-in-LayoutRecords
returns-in-LayoutRecords c = sym (ap rule_number c.in-LayoutRecords.is)

pub returns-in-LayoutDigests : goal.returns-in-LayoutDigests
returns-in-LayoutDigests c = sym (ap rule_number c.in-LayoutDigests.is)

pub returns-in-LayoutExtents : goal.returns-in-LayoutExtents
returns-in-LayoutExtents c = sym (ap rule_number c.in-LayoutExtents.is)

pub returns-in-LayoutLength : goal.returns-in-LayoutLength
returns-in-LayoutLength c = sym (ap rule_number c.in-LayoutLength.is)
