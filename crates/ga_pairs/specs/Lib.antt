-- Pairs that threads claim, each by one.
pub mod Homes
pub mod Pairs
pub mod Events
pub mod Running
