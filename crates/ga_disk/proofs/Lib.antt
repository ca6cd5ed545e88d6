pub mod Crashed
pub mod Images
pub mod Kept
pub mod Moments
pub mod Only
pub mod Picked
pub mod Traces
pub mod Written
