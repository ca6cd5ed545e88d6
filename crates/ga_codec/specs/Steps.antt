-- What stands between the code and the definitions: only inner contracts and proofs speak of it.
pub mod Parts
pub mod Grammar
pub mod Shapes
pub mod Utf8
pub mod Pieces
