-- Laws about the buffer and the answers, which several proofs cite.
pub mod RowByRow
pub mod Finishes
