pub mod RecordRows
pub mod RecordsPass
