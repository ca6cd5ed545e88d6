-- What only inner contracts and proofs say: what workers put into tables, and how the rows of a summary come from them.
pub mod TableInputs
pub mod Filling
pub mod Filled
pub mod CountedRows
