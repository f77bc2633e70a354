pub mod Tidiness
