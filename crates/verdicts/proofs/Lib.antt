-- Why the lines of a log say its verdict.
pub mod Words
pub mod SameLine
pub mod Verdicts
