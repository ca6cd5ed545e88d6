-- What a run of the tool for databases is.
pub mod Words
pub mod Opening
pub mod Merged
pub mod Texts
pub mod Statuses
pub mod Outside
pub mod Ends
pub mod DbRun
pub mod Steps
