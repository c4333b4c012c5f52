-- What the bytes of a frame mean.
pub mod Numbers
