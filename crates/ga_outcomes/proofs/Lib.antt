pub mod Behind
pub mod Limits
pub mod Dated
pub mod SomeOutcomes
