-- `check_segment::check_segment` meets its contract: the size, and then the rules of the header that was read.
use native.Mathlib.Omega.{arith}
use Rattle.segment.specs.Format.{v3}
use Rattle.segment.proofs.Shapes.{v3-shaped}
use Rattle.check_segment.proofs.SegmentOrder.{too_small, too_large, sized}
use Rattle.check_segment.proofs.check_segment.Goals as goal

pub returns-then-seg-lt-LEAST : goal.returns-then-seg-lt-LEAST
returns-then-seg-lt-LEAST c = too_small _ _ _ (omega arith)

pub returns-then-seg-gt-LIMIT : goal.returns-then-seg-gt-LIMIT
returns-then-seg-gt-LIMIT c = too_large _ _ _ (omega arith) (omega arith)

pub check_rules-requires : goal.check_rules-requires
check_rules-requires c = record { shaped = v3-shaped; seg_len_bound = omega arith }

pub returns : goal.returns
returns c = sized v3 _ _ (omega arith) _ (omega arith) c.of.ensures c.check_rules.ensures
