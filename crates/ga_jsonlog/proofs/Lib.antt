mod Leaves
pub mod PieceLemmas
mod PlaceLemmas
