pub mod Fresh
pub mod FreshDisk
pub mod Targets
