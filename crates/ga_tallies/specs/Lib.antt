-- What is counted of lines, in numbers.
pub mod Tallies
pub mod Agents
pub mod Steps
