-- What a run has counted of its logs, in numbers.
pub mod Totals
pub mod Steps
