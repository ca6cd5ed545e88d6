-- The database of a run.
pub mod RunDatabase
pub mod Faults
