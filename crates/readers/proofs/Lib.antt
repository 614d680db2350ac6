pub mod Names
pub mod Readers
pub mod Back
