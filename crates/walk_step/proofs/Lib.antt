pub mod Stepping
pub mod Following
