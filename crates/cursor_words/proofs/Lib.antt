-- Laws about cursors as words.
pub mod Again
