-- What is written by the number of a format.
pub mod Lines
