pub mod ExtentRows
