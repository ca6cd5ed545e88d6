pub mod Items
pub mod Calendar
pub mod Spelling
pub mod Grammar
pub mod Steps
