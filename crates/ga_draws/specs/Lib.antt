-- Numbers that threads draw, each once.
pub mod SeatViews
pub mod Draws
pub mod Events
pub mod Running
