pub mod EveryText
pub mod NumberLemmas
pub mod OneFormat
pub mod OneSpelling
pub mod PartLemmas
pub mod ReadLemmas
pub mod RowLemmas
