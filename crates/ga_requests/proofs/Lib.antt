mod ExtensionLemmas
pub mod MeaningLemmas
mod PhraseLemmas
mod PlaceLemmas
mod SiteLemmas
mod SplitLemmas
mod WordLemmas
