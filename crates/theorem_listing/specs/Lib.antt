pub mod FiveLines
