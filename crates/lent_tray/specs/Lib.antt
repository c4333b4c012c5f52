-- What the calls on a lent tray answer and leave.
pub mod Lent
