pub mod Scanning
pub mod Telling
pub mod Fields
