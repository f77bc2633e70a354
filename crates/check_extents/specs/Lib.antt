pub mod ExtentRules
