-- The keys of the lines that tests count, and the summaries of their runs.
pub mod TestKeys
pub mod Together
