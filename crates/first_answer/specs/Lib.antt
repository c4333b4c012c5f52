-- What the first call on a text answers.
pub mod Firsts
