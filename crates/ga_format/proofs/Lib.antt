mod UnitLemmas
mod RowLemmas
mod Reading
mod Faults
pub mod Answering
mod EveryText
