pub mod Leads
pub mod Hinting
