pub mod Order
pub mod Settled
pub mod Places
