pub mod Entries
pub mod Following
pub mod ReadPart
pub mod Segment
pub mod Steps
