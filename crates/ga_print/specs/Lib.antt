pub mod Names
pub mod Percents
pub mod Csv
pub mod Keys
pub mod Json
pub mod Steps
