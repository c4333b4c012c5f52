-- What the answers of the log reader mean.
pub mod Answers
pub mod Starts
