pub mod Emit
