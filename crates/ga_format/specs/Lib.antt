pub mod Specifiers
pub mod Units
pub mod FieldKinds
pub mod FormatOf
pub mod SoundFormats
pub mod Named
pub mod Steps
