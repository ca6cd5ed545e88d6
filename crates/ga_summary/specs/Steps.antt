-- What only inner contracts and proofs say: the entries that a summary keeps, and how they are found, joined and put.
pub mod Places
pub mod Entries
pub mod Joined
pub mod Room
pub mod Loads
pub mod Passing
pub mod LastDays
