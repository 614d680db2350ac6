pub mod Walk
pub mod Scratch
