pub mod RequestOrder
