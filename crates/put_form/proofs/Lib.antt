pub mod Plans
pub mod Stretches
pub mod Body
pub mod Planning
