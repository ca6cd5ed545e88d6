-- What only inner contracts and proofs say.
pub mod Shares
pub mod Texts
pub mod Writing
