pub mod Holding
pub mod OneTidyForm
