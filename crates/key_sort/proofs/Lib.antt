pub mod Counting
pub mod Halves
pub mod Numbered
