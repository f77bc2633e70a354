pub mod TableTest
pub mod TableRule
