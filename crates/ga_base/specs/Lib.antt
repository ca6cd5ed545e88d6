-- The types that every crate shares, as contracts see them.
pub mod Bytes
pub mod Texts
pub mod Days
pub mod Panels
pub mod Totals
pub mod Lines
pub mod Orders
pub mod Layers
pub mod FormatFaults
pub mod Records
pub mod Pieces
pub mod Parts
