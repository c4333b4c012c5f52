-- The line before a text.
pub mod Titles
