pub mod ListedRows
pub mod LinesPut
