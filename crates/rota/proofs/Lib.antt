-- Laws about the round, whatever the jobs are and however they are served.
pub mod Waiting
pub mod Calls
pub mod Account
pub mod Tickets
pub mod Gone
pub mod Fair
pub mod Alone
