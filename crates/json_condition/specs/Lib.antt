pub mod Conditions
pub mod Gathering
pub mod Words
