-- What only the contracts of private functions and their proofs say.
pub mod Committing
pub mod Recovery
pub mod Stream
pub mod Slice
pub mod SideParts
pub mod Bodies
pub mod Starts
pub mod Records
pub mod BothStreams
