-- What is laid into a page, and numbers, literals and words as the programs print them.
pub mod Pages
pub mod Printed
