-- What is counted of a batch, in tables, and the summary for which it stands.
pub mod Stands
pub mod CountedBatch
pub mod Steps
