-- Laws that the proofs of several functions cite.
pub mod Stops
pub mod Returns
pub mod Begins
