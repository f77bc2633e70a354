pub mod PartLaws
pub mod WholeText
