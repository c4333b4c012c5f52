-- The laws that walks of a function's code share, in the order in which a walk meets them: the parameters, the locals, the statements, the calls, what is lent, and the contract in the end.
pub mod Params
pub mod Locals
pub mod Statements
pub mod Pairs
pub mod Calls
pub mod Lent
pub mod Loans
pub mod Copies
pub mod Ends
pub mod Words
