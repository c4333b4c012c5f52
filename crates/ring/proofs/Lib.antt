-- Laws about the ring, which the proofs here and above cite.
pub mod Leaving
