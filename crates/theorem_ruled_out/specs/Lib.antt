pub mod WrongPrograms
