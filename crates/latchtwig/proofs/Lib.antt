-- Laws about what a text comes to by number.
pub mod Outcomes
pub mod Within
