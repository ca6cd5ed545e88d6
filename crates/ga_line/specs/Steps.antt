-- What only the contracts of inner functions and the proofs say. Nobody who calls the crate needs these words.
pub mod Fitting
pub mod Forwarding
pub mod Valid
