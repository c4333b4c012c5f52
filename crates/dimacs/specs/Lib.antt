-- The written definition of the formats, in the order of document 01. Each file's first line says what it holds. The modules `specs.declared.X` that they name
-- stand in no file here: each is made from the type X in src/lib.rt.
pub mod Loop
pub mod Buffers
pub mod Bytes
pub mod Spots
pub mod Names
pub mod Lined
pub mod Tokens
pub mod Header
pub mod Rows
pub mod Clauses
pub mod Texts
pub mod Logs
pub mod Writing
pub mod Seen
pub mod Leniency
pub mod Cases
