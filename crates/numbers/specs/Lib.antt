-- Refusals as words.
pub mod Words
