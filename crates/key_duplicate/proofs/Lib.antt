pub mod Known
pub mod Scanning
