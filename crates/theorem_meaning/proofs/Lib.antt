pub mod Tables
pub mod Accounts
pub mod Members
pub mod Tellings
