pub mod OrderLemmas
pub mod InPieces
pub mod InParts
