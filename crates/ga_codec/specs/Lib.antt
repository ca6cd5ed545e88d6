-- The bytes of snapshots and run records, and where bytes that are none stop being so.
pub mod Values
pub mod Spelling
pub mod Shapes
pub mod Appending
pub mod Pieces
pub mod Steps
