pub mod Answering
pub mod Entering
pub mod Demands
pub mod Members
