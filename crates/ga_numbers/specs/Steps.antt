-- What only the contracts of private functions and their proofs say: how keys and visitors are kept as rows.
pub mod ShardRows
pub mod Three
pub mod Kept
pub mod ShardMerges
pub mod KeyPrefixes
pub mod VisitorRows
