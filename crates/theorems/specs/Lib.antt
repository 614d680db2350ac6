pub mod Shape
pub mod Length
pub mod Outputs
pub mod Statements
pub mod Written
pub mod Named
