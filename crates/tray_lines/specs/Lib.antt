-- The words for what a turn tells a job.
pub mod Printed
