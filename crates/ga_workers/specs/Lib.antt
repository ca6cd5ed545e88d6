-- Batches of lines counted on by many workers.
pub mod Workers
pub mod Together
pub mod KeyedBy
pub mod Steps
