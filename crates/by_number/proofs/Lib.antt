-- Laws about what is written by the number of a format.
pub mod Left
