-- What a reader of the theorem must believe, over the written definition of logs.
pub mod Lines
