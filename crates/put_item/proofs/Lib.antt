pub mod ItemColumns
pub mod Measuring
pub mod ItemRows
