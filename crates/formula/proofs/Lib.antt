-- Laws about cursors and calls, which the proofs here and the tray's cite.
pub mod Looks
pub mod Runs
