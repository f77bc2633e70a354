pub mod Xor
pub mod StepLaws
