pub mod Tests
pub mod Equal
pub mod Each
pub mod Counted
pub mod Members
pub mod Sorting
pub mod Lex
pub mod Arranged
