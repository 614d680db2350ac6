pub mod Filters
pub mod Changes
pub mod Seen
pub mod Statements
