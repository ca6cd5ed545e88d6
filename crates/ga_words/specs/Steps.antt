-- What the functions of this crate promise to one another. No public contract names it.
pub mod Joined
pub mod Settings
pub mod Words
