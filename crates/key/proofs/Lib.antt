pub mod KeyColumns
pub mod HeadNumbers
pub mod Duplicates
pub mod ItemOrder
