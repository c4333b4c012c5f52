-- The laws of a struct that holds a text and a cursor: what its promises come to.
pub mod Readers
