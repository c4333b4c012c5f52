-- What is put into a lent output, the digits of a number by their places, and the sign of a literal.
pub mod Pieces
pub mod Places
pub mod Signs
