pub mod Steps
pub mod Conditions
pub mod Calls
pub mod Args
pub mod Keys
pub mod Fields
pub mod Heads
pub mod Entries
