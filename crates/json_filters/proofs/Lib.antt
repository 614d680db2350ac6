pub mod Placing
pub mod Gathering
pub mod Turning
pub mod Filtering
