-- What the answers for the lines of a log mean.
pub mod Answers
pub mod Lines
