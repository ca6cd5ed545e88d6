-- Sums and maxima that threads add to.
pub mod Greatest
pub mod Counts
pub mod Events
pub mod Running
