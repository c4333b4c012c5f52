-- The lines that several programs print.
pub mod Printed
