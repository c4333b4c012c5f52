-- Cursors as words.
pub mod Cursors
