pub mod Looking
pub mod Agreeing
