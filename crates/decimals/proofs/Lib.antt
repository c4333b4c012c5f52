-- Laws about digits, their places, signs and the room for a piece, which several proofs cite.
pub mod Digits
pub mod Places
pub mod Subtracting
pub mod Laying
pub mod Literals
pub mod Pieces
