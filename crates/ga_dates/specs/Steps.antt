-- What the functions of this crate promise to one another, and what its proofs speak of. No public contract names it.
pub mod Compile
pub mod Reading
