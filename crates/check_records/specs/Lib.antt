pub mod RecordsPassed
