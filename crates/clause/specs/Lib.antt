-- The answers of the readers, by those of the definition.
pub mod Answers
pub mod Begins
