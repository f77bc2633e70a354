pub mod RequestBook
pub mod Places
