pub mod Crc
pub mod Vectors
