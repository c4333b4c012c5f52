-- What is told of the bytes that are read.
pub mod Takes
