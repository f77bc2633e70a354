pub mod Tables
pub mod Accounts
pub mod Tellings
