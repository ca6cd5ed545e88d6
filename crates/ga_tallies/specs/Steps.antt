-- What only the contracts of private functions and their proofs say.
pub mod Adding
pub mod Notes
pub mod Absorbing
pub mod OneLine
