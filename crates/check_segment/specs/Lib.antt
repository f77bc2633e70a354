pub mod SegmentParts
