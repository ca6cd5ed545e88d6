-- What only inner contracts and proofs say: how workers draw pieces, and what lines weigh.
pub mod Drawing
pub mod CounterLimits
