-- The database on the two sides of a disk, and what recovery and a commit do with it.
pub mod SideParts
pub mod Database
pub mod Commit
pub mod Holding
pub mod Store
pub mod Commits
pub mod Steps
