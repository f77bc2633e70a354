pub mod TidyRead
