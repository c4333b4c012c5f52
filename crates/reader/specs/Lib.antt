-- What a reader that holds its text answers.
pub mod Readers
