-- What the host calls answer.
pub mod Outcomes
