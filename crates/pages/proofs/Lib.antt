-- Laws about what is laid into a page, which proofs here and in the crates above cite.
pub mod Pages
