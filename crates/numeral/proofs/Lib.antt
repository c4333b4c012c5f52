-- Laws about the parts of numbers, which several proofs cite.
pub mod Runs
pub mod Negated
