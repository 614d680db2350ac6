pub mod Names
pub mod Parts
pub mod Views
