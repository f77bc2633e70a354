pub mod CaseListed
