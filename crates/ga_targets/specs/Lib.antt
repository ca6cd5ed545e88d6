-- What a target took.
pub mod Printing
