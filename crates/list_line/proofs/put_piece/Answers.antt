-- `list_line::put_piece` meets its contract: place by place.
use Rattle.list_line.proofs.LinesPut.{at-record-count, at-extent-count, at-record, at-extent, at-end}
use Rattle.list_line.proofs.put_piece.Goals as goal

pub returns-in-RecordCount : goal.returns-in-RecordCount
returns-in-RecordCount c = at-record-count _ _ _ c.requires.readable _ c.in-RecordCount.is c.put_count.ensures

pub returns-in-RecordLine : goal.returns-in-RecordLine
returns-in-RecordLine c = at-record _ _ _ c.requires.readable _ _ c.in-RecordLine.k c.in-RecordLine.is c.put_record.ensures

pub returns-in-ExtentCount : goal.returns-in-ExtentCount
returns-in-ExtentCount c = at-extent-count _ _ _ c.requires.readable _ _ c.in-ExtentCount.is c.count_extents.ensures c.put_count-in-ExtentCount.ensures

pub returns-in-ExtentLine : goal.returns-in-ExtentLine
returns-in-ExtentLine c = at-extent _ _ _ c.requires.readable _ _ c.in-ExtentLine.k c.in-ExtentLine.j c.in-ExtentLine.is c.put_extent.ensures

pub returns-in-Done : goal.returns-in-Done
returns-in-Done c = at-end _ _ _ _ c.in-Done.is c.requires.room
