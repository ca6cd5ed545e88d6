-- A disk of two sides, and what a crash may leave of them.
pub mod Sides
pub mod Disk
pub mod Images
pub mod SideState
pub mod MemDisk
pub mod Pick
pub mod Trace
pub mod Laws
