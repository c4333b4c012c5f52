-- What follows from the promises of a lent tray.
pub mod Lent
