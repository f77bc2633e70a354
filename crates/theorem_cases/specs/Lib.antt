pub mod PCases
pub mod Members
