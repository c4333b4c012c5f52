-- The laws from which it follows that what is written is read back, from the digits of a number up to whole texts.
pub mod Each
pub mod Digits
pub mod Ends
pub mod Tokens
pub mod Clauses
pub mod Texts
pub mod Headers
pub mod Returns
pub mod ReadBack
pub mod Writers
