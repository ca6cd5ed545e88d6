pub mod Greatest
pub mod Rows
pub mod Keeps
pub mod Steps
pub mod Closes
