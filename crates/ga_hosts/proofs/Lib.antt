mod GrammarLemmas
mod NumberLemmas
mod AddressLemmas
mod DashLemmas
mod RangeLemmas
mod EveryNumber
