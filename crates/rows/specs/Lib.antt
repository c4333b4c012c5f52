-- What the answers of the reader of rows mean.
pub mod Answers
