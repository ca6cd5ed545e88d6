pub mod Cutting
pub mod Feeding
pub mod LineSteps
pub mod GoingOn
mod FedBytes
