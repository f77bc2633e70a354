pub mod Leading
pub mod Lent
