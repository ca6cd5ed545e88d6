-- Lists of steps in a world in memory, and what is promised of them.
pub mod History
pub mod Parts
pub mod Headline
