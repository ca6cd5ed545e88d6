pub mod ConfFile
pub mod Steps
