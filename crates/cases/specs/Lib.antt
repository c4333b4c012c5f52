-- What the frame of a text says, and what is printed of a text.
pub mod Heads
pub mod Printed
