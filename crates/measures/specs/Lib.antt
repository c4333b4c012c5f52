-- The parts of a header.
pub mod Lines
