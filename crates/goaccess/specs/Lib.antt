pub mod Answers
pub mod Targets
pub mod Words
