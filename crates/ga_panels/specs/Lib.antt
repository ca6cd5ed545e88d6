pub mod Facts
pub mod Form
pub mod Known
pub mod Labels
pub mod Refs
pub mod Steps
pub mod Table
pub mod Visitors
