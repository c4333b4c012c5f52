-- Laws about literals in a row and about the lengths of lines.
pub mod Literals
pub mod Lines
