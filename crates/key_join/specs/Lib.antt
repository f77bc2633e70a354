pub mod Joins
