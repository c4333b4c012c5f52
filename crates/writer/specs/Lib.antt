-- The answers of the writers, by those of the definition.
pub mod Answers
