pub mod SegmentOrder
