-- Laws about serving, which the proofs here cite.
pub mod Serving
