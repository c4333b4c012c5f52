-- The line of a case.
pub mod Answers
