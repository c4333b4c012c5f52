-- What serving a job comes to.
pub mod Serving
