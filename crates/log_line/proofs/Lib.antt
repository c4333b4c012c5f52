-- Laws about the lines of a log.
pub mod Rows
mod Words
