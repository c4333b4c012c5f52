-- What opening a text answers.
pub mod Counts
pub mod Headed
