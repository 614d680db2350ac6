pub mod Scan
pub mod Telling
