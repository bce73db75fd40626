-- What the exported calls shut out.
pub mod WrongPrograms
