-- The line of a call.
pub mod Answers
