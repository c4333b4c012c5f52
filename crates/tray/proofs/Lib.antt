-- Laws about turns, which the proofs here and above cite.
pub mod Turns
pub mod Fits
pub mod Tells
