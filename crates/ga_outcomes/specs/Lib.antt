-- The outcomes of the lines of logs.
pub mod LineOutcomes
