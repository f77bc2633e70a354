pub mod Answered
pub mod Refusals
pub mod LookUps
pub mod Tidying
pub mod Writing
pub mod Asking
