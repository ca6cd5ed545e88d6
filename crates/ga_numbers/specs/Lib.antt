-- The numbers of keys and visitors.
pub mod NotedNumbers
pub mod VisitorRefs
pub mod Steps
