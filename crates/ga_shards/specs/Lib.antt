-- Different items and their numbers.
pub mod Numbers
pub mod Keys
pub mod Steps
