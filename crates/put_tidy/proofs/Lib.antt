pub mod SortedItems
pub mod EmittedAfter
