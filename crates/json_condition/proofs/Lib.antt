pub mod Fields
pub mod Gathering
pub mod OneKey
pub mod Reading
pub mod Words
