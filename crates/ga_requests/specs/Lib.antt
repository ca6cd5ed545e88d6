pub mod Referrers
pub mod Requests
pub mod Steps
pub mod Tables
pub mod Urls
