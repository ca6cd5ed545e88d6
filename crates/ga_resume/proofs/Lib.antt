mod Choices
pub mod PartReads
mod Placements
pub mod AChoice
