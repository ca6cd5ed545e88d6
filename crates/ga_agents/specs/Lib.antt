pub mod Classes
pub mod Occurs
pub mod RulesFile
pub mod Steps
pub mod Tables
