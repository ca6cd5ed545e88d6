-- What only the contracts of private functions and their proofs say.
pub mod Counting
pub mod Logs
pub mod ReadPortion
pub mod Streaming
