-- Which parts of logs a run counts, and what their lines come to.
pub mod Portions
pub mod Following
pub mod Missing
pub mod Logs
pub mod Counting
pub mod Streams
pub mod Steps
