pub mod Effect
pub mod Scratch
