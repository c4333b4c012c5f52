-- The ring of jobs.
pub mod Ring
