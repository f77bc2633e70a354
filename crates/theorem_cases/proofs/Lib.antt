pub mod Sealed
pub mod AnyHeading
pub mod PCases
pub mod Members
