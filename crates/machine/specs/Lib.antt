pub mod Codes
pub mod Run
pub mod Outcomes
