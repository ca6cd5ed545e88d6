-- What only inner contracts and proofs say.
pub mod Tasks
pub mod Sharing
pub mod Parts
