pub mod Places
pub mod Noting
pub mod Room
pub mod Shifting
pub mod Turns
pub mod Gathering
