-- What the promise of a first answer comes to.
pub mod Firsts
