pub mod Lines
pub mod Summary
