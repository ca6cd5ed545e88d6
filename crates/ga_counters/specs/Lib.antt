-- Counts of the forms of the outside.
pub mod Counts
