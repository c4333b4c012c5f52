-- Laws about the calls over words, and what a host hears of them.
pub mod Parts
pub mod Runs
pub mod Stops
