pub mod Items
pub mod ItemOrder
pub mod Heads
pub mod Lent
