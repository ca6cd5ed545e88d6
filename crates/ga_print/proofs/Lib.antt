pub mod Lines
pub mod NoFloats
pub mod Texts
