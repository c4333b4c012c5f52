-- Laws about the kinds of line and the loop over them, which several proofs cite.
pub mod Lines
pub mod Runs
