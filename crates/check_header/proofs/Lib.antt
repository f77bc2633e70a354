pub mod HeaderRows
pub mod HeaderOrder
