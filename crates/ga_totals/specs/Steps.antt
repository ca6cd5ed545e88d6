-- What only the contracts of private functions and their proofs say.
pub mod KeyRows
pub mod Ranks
pub mod Sources
pub mod Visits
