pub mod AgentLemmas
pub mod ClassLemmas
pub mod CutLemmas
pub mod FileLemmas
pub mod LineLemmas
pub mod NameLemmas
pub mod OccurLemmas
pub mod SomeAnswer
