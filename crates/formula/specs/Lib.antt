-- What the cursors and answers of the code mean.
pub mod Openings
pub mod Cursors
pub mod Whole
