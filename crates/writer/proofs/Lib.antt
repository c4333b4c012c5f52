-- Laws about the pieces of a line, literals in a row and whole lines, which several proofs cite.
pub mod Pieces
pub mod Literals
pub mod Lines
