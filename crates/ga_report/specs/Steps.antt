-- What only inner contracts and proofs say.
pub mod Summed
pub mod RowPlaces
pub mod Alone
pub mod LastDays
