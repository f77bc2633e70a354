pub mod WrittenAgain
pub mod Sums
pub mod PackedAgain
pub mod Forming
pub mod Standing
pub mod Tidiness
