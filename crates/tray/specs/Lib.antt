-- The tray's calls on a record, and what their answers say.
pub mod Calls
pub mod Answers
