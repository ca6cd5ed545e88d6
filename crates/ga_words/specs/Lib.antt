pub mod Defaults
pub mod Values
pub mod Options
pub mod Forms
pub mod Units
pub mod WordsOf
pub mod Joined
pub mod Steps
