pub mod Objects
pub mod Places
pub mod JsonFormats
pub mod Pieces
pub mod Steps
