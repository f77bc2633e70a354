pub mod OneRefusal
pub mod TablesHeader
pub mod TablesRecord
pub mod TablesVisibility
pub mod Book
pub mod Readable
pub mod Places
pub mod Rows
