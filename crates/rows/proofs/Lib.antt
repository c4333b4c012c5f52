-- The laws of reading a row into a lent buffer.
pub mod Buffer
