-- Lines as they are held, and what a batcher holds of a stream.
pub mod Lines
pub mod Batches
pub mod Steps
pub mod Laws
pub mod Fed
