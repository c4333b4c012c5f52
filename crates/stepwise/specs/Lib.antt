-- What the calls over words answer and leave, and what a host hears of them.
pub mod Calls
pub mod Heard
