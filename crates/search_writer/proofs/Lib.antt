pub mod Planting
pub mod Halving
pub mod Planted
pub mod Turning
