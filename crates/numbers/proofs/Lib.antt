-- Laws about the numbers of a host.
pub mod Named
