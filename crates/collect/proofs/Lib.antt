pub mod Groups
pub mod Lines
pub mod Listing
pub mod Parts
pub mod Sorting
pub mod Writing
